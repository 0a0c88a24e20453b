-- What fields of a cache are to be. A field that breaks a rule, or runs into the seal, has the fault 1 at its first byte.
use Rattle.std.specs.Prelude.{ℕ, Bool, true, false, ◌&&◌, List, codes, nat_eq, nat_lt, Option, Some, None, Result, Ok, Err, if◌then◌else◌}
use Rattle.std.specs.Cmp.Lexicographic.{pointwise}
use Rattle.std.specs.declared.cmp.Ordering.{Ordering}
use Rattle.std.specs.Ordering.{is_lt}
use Rattle.pj_cache.specs.Places.{byte_order}
use Rattle.std.specs.Str.{is_utf8}
use Rattle.pj_format.specs.Format.{Format, Done, Field}
use Rattle.pj_format.specs.Fields.{sized_as}

-- whether it stands behind what is before it, if there is something
abbrev pub is_behind : {A : Type 0} → (A → A → Ordering) → Option A → A → Bool
is_behind order None x = true
is_behind order (Some before) x = is_lt (order before x)

-- a value that passes a test
abbrev pub passing : {A : Type 0} → (A → Bool) → A → Result A ℕ
passing test x = if test x then Ok x else Err 1

-- what is at fault whatever the bytes are
unfoldable pub fault_here : {A : Type 0} → Format A
fault_here = Field 0 (λ b. Err 1) (λ x. Done x)

-- a value where a test of it is passed, which takes no byte
unfoldable pub when : {A : Type 0} → Bool → A → Format A
when true x = Done x
when false x = fault_here

-- a text
unfoldable pub text : Format (List ℕ)
text = sized_as (passing is_utf8)

-- the path of a file behind another one
abbrev pub is_path_behind : Option (List ℕ) → List ℕ → Bool
is_path_behind before path = is_utf8 path && is_behind byte_order before path

-- the language of the files
abbrev pub is_language : List ℕ → Bool
is_language text = pointwise nat_eq text (codes "java-17")

-- a tag below a number
abbrev pub is_below : ℕ → ℕ → Bool
is_below n tag = nat_lt tag n
