-- The number of the format settles by which format all but the seal is read.
use Rattle.std.proofs.Common.{◌≡◌, ℕ, ◌≤◌, Bool, true, false, ◌||◌, cond, eqb, List, length, take, drop, Result, Ok, Err, nat_eq, nat_lt, refl, sym, ap, subst, ◌∙◌, arith}
use Rattle.std.proofs.lemmas.Bool.{eqb-true, le-ltb}
use Rattle.pj_format.specs.declared.fault.Fault.{Fault}
use Rattle.pj_format.specs.Format.{Format, Done, End, ◌>>=◌, first, fault, judged, ◌and_then◌, whole, Means}
use Rattle.pj_format.specs.Fields.{run, u32, u32_as}
use Rattle.pj_format.proofs.Laws.{first_then, first_done, first_u32_as}
use Rattle.pj_format.proofs.Spelling.{means_one, read_means, value_read}
use Rattle.pj_cache.specs.declared.cache.Cache.{Cache}
use Rattle.pj_cache.specs.declared.cache.Stored.{Stored}
use Rattle.pj_cache.specs.declared.cache.Stored.TheVariants as formats
use Rattle.pj_cache.specs.declared.old.OldCache.{OldCache}
use Rattle.pj_cache_format.specs.Judges.{passing}
use Rattle.pj_cache_format.specs.FormatTwo.{cache}
use Rattle.pj_cache_format.specs.Decoded.{is_version, stored}
use Rattle.pj_old_format.specs.FormatOne.{old_cache}
use Rattle.pj_old_format.specs.AnyStored.{is_format, first_format, second_format, any_stored}
use Rattle.pj_old_reading.specs.Spelled.{is_one, old_stored, version_in}

abbrev Read : Type 0 → Type 0
Read A = Result (A × ℕ) Fault

abbrev good : {A : Type 0} → A → ℕ → Read A
good x end = Ok (x, end)

abbrev wrong : {A : Type 0} → ℕ → Read A
wrong at = Err (fault 1 at)

-- ---- the end of all bytes

abbrev end_of : {A : Type 0} → List ℕ → A × ℕ → Read A
end_of bytes x = cond (nat_eq x.1 (length bytes)) (Ok x) (Err (fault 1 x.1))

whole_is : {A : Type 0} (format : Format A) (bytes : List ℕ) → first (whole 1 format) bytes 0 ≡ (first format bytes 0 and_then end_of bytes)
unfolding whole first
whole_is format bytes = first_then format (λ x. End 1 (Done x)) bytes 0

-- ---- the magic and the number

begun_at : (bytes : List ℕ) → 12 ≤ length bytes → first (run 8) bytes 0 ≡ good (take 8 (drop 0 bytes)) 8
unfolding run first
begun_at bytes long =
    let within : nat_lt (length bytes) 8 ≡ false = le-ltb (length bytes) 8 (omega (arith, long)) in
    ap (λ (b : Bool). cond b (wrong 0) (good (take 8 (drop 0 bytes)) 8)) within

number_at : (bytes : List ℕ) → 12 ≤ length bytes → first u32 bytes 8 ≡ good (version_in bytes) 12
unfolding u32 u32_as first
number_at bytes long =
    let within : nat_lt (length bytes) 12 ≡ false = le-ltb (length bytes) 12 (omega (arith, long)) in
    ap (λ (b : Bool). cond b (wrong 8) (good (version_in bytes) 12)) within

abbrev ruled : Bool → ℕ → Result ℕ ℕ
ruled b n = cond b (Ok n) (Err 1)

-- a number that is judged by a test
tested : (test : ℕ → Bool) (bytes : List ℕ) (n : ℕ) (b : Bool) → 12 ≤ length bytes → version_in bytes ≡ n → test n ≡ b → first (u32_as (passing test)) bytes 8 ≡ cond b (good n 12) (wrong 8)
tested test bytes n b long is passes =
    first_u32_as (passing test) bytes 8
    ∙ ap (λ (r : Read ℕ). r and_then λ x. judged 8 (passing test x.0) and_then λ y. good y x.1) (number_at bytes long ∙ ap (λ (v : ℕ). good v 12) is)
    ∙ ap (λ (c : Bool). judged 8 (ruled c n) and_then λ y. good y 12) passes
    ∙ by_test b
  where
    by_test : (c : Bool) → (judged 8 (ruled c n) and_then λ y. good y 12) ≡ cond c (good n 12) (wrong 8)
    by_test true = refl
    by_test false = refl

module _ {A : Type 0} (test : ℕ → Bool) (next : ℕ → Format A) where
  abbrev numbered : Format A
  numbered = u32_as (passing test) >>= next

  abbrev front : Format A
  front = run 8 >>= λ (begun : List ℕ). numbered

  front_is : (bytes : List ℕ) (n : ℕ) (b : Bool) → 12 ≤ length bytes → version_in bytes ≡ n → test n ≡ b → first front bytes 0 ≡ (cond b (good n 12) (wrong 8) and_then λ x. first (next x.0) bytes x.1)
  front_is bytes n b long is passes =
      first_then (run 8) (λ (begun : List ℕ). numbered) bytes 0
      ∙ ap (λ (r : Read (List ℕ)). r and_then λ x. first numbered bytes x.1) (begun_at bytes long)
      ∙ first_then (u32_as (passing test)) next bytes 8
      ∙ ap (λ (r : Read ℕ). r and_then λ x. first (next x.0) bytes x.1) (tested test bytes n b long is passes)

-- ---- caches made of what is read

abbrev as_stored : {A : Type 0} → (A → Stored) → Read A → Read Stored
as_stored make r = r and_then λ x. Ok (make x.0, x.1)

ends_as : {A : Type 0} (make : A → Stored) (bytes : List ℕ) (r : Read A) → (as_stored make r and_then end_of bytes) ≡ as_stored make (r and_then end_of bytes)
ends_as make bytes (Ok x) = by_end (nat_eq x.1 (length bytes)) where
  by_end : (b : Bool) → cond b (good (make x.0) x.1) (wrong x.1) ≡ as_stored make (cond b (Ok x) (wrong x.1))
  by_end true = refl
  by_end false = refl
ends_as make bytes (Err f) = refl

first_is : (bytes : List ℕ) (at : ℕ) → first first_format bytes at ≡ as_stored (λ old. formats.One old) (first old_cache bytes at)
unfolding first_format
first_is bytes at =
    first_then old_cache (λ old. Done (formats.One old)) bytes at
    ∙ ap (λ (f : OldCache × ℕ → Read Stored). first old_cache bytes at and_then f) (λ i x. first_done (formats.One x.0) bytes x.1 i)

second_is : (bytes : List ℕ) (at : ℕ) → first second_format bytes at ≡ as_stored (λ new. formats.Two new) (first cache bytes at)
unfolding second_format
second_is bytes at =
    first_then cache (λ new. Done (formats.Two new)) bytes at
    ∙ ap (λ (f : Cache × ℕ → Read Stored). first cache bytes at and_then f) (λ i x. first_done (formats.Two x.0) bytes x.1 i)

abbrev behind_version : ℕ → Format Stored
behind_version v = cond (eqb v 1) first_format second_format

any_is : (bytes : List ℕ) (n : ℕ) (b : Bool) → 12 ≤ length bytes → version_in bytes ≡ n → is_format n ≡ b → first any_stored bytes 0 ≡ (cond b (good n 12) (wrong 8) and_then λ x. first (behind_version x.0) bytes x.1)
unfolding any_stored
any_is bytes n b long is passes = front_is is_format behind_version bytes n b long is passes

old_is : (bytes : List ℕ) (n : ℕ) (b : Bool) → 12 ≤ length bytes → version_in bytes ≡ n → is_one n ≡ b → first old_stored bytes 0 ≡ (cond b (good n 12) (wrong 8) and_then λ x. first old_cache bytes x.1)
unfolding old_stored
old_is bytes n b long is passes = front_is is_one (λ v. old_cache) bytes n b long is passes

new_is : (bytes : List ℕ) (n : ℕ) (b : Bool) → 12 ≤ length bytes → version_in bytes ≡ n → is_version n ≡ b → first stored bytes 0 ≡ (cond b (good n 12) (wrong 8) and_then λ x. first cache bytes x.1)
unfolding stored
new_is bytes n b long is passes = front_is is_version (λ v. cache) bytes n b long is passes

-- reading by one format is reading by another one, of whose values caches are made
abbrev IsMade : {A : Type 0} → (A → Stored) → Format A → List ℕ → Type 0
IsMade make format bytes = first (whole 1 any_stored) bytes 0 ≡ as_stored make (first (whole 1 format) bytes 0)

from_front : {A : Type 0} (make : A → Stored) (format : Format A) (bytes : List ℕ) → first any_stored bytes 0 ≡ as_stored make (first format bytes 0) → IsMade make format bytes
from_front make format bytes same =
    whole_is any_stored bytes
    ∙ ap (λ (r : Read Stored). r and_then end_of bytes) same
    ∙ ends_as make bytes (first format bytes 0)
    ∙ ap (as_stored make) (sym (whole_is format bytes))

pub made_old : (bytes : List ℕ) → 12 ≤ length bytes → version_in bytes ≡ 1 → IsMade (λ old. formats.One old) old_stored bytes
made_old bytes long is =
    from_front (λ old. formats.One old) old_stored bytes
    (any_is bytes 1 true long is refl ∙ first_is bytes 12 ∙ ap (as_stored (λ old. formats.One old)) (sym (old_is bytes 1 true long is refl)))

neither : (a b : Bool) → a ≡ false → b ≡ false → (a || b) ≡ false
neither true b e f = e
neither false b e f = f

by_number : (bytes : List ℕ) (n : ℕ) (a b : Bool) → eqb n 1 ≡ a → eqb n 2 ≡ b → ¬ (n ≡ 1) → 12 ≤ length bytes → version_in bytes ≡ n → IsMade (λ new. formats.Two new) stored bytes
by_number bytes n true b one two not_one long is = absurd (not_one (eqb-true n 1 one))
by_number bytes n false true one two not_one long is =
    let second : version_in bytes ≡ 2 = is ∙ eqb-true n 2 two in
    from_front (λ new. formats.Two new) stored bytes
    (any_is bytes 2 true long second refl ∙ second_is bytes 12 ∙ ap (as_stored (λ new. formats.Two new)) (sym (new_is bytes 2 true long second refl)))
by_number bytes n false false one two not_one long is =
    from_front (λ new. formats.Two new) stored bytes
    (any_is bytes n false long is (neither (eqb n 1) (eqb n 2) one two) ∙ ap (as_stored (λ new. formats.Two new)) (sym (new_is bytes n false long is two)))

pub made_new : (bytes : List ℕ) → 12 ≤ length bytes → ¬ (version_in bytes ≡ 1) → IsMade (λ new. formats.Two new) stored bytes
made_new bytes long not_one = by_number bytes (version_in bytes) (eqb (version_in bytes) 1) (eqb (version_in bytes) 2) refl refl not_one long refl

-- ---- what bytes mean

abbrev pub made_of : {A : Type 0} → (A → Stored) → Result A Fault → Result Stored Fault
made_of make (Ok x) = Ok (make x)
made_of make (Err f) = Err f

value_as : {A : Type 0} (make : A → Stored) (r : Read A) → value_read (as_stored make r) ≡ made_of make (value_read r)
value_as make (Ok x) = refl
value_as make (Err f) = refl

pub means_made : {A : Type 0} (make : A → Stored) (format : Format A) (bytes : List ℕ) (r : Result A Fault) → IsMade make format bytes → Means (whole 1 format) bytes r → Means (whole 1 any_stored) bytes (made_of make r)
means_made {A} make format bytes r made means =
    let read : Read A = first (whole 1 format) bytes 0 in
    let one : value_read read ≡ r = means_one (whole 1 format) bytes (value_read read) r (read_means 1 format bytes read refl) means in
    subst (λ (s : Result Stored Fault). Means (whole 1 any_stored) bytes s) (value_as make read ∙ ap (made_of make) one) (read_means 1 any_stored bytes (as_stored make read) made)
