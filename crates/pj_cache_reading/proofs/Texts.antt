-- Tests of byte strings, and what code that tests them knows.
use Rattle.std.proofs.Common.{◌≡◌, ◌+◌, ◌<◌, Bool, true, false, cond, ltb, eqb, List, [], ◌∷◌, ℕ, suc, length, get_or, map, drop, refl, sym, ◌∙◌, add-one, drop-cons, arith}
use Rattle.std.specs.declared.cmp.Ordering.TheVariants.{Less, Equal, Greater}
use Rattle.std.specs.Ordering.{is_lt, nat_cmp}
use Rattle.std.specs.Str.{IsUtf8, is_utf8}
use Rattle.std.proofs.lemmas.Bool.{eqb-true}
use Rattle.std.proofs.lemmas.List.{length-map}
use Rattle.pj_cache_format.specs.FormatTwo.{is_empty}
use Rattle.std.proofs.lemmas.Str.{IsUtf8-from_is_utf8, is_utf8-from_IsUtf8}

pub is_text : (bytes : List ℕ) → IsUtf8 bytes → is_utf8 bytes ≡ true
is_text bytes h = is_utf8-from_IsUtf8 bytes h

by_case : (bytes : List ℕ) (b : Bool) → is_utf8 bytes ≡ b → ¬ (IsUtf8 bytes) → is_utf8 bytes ≡ false
by_case bytes true e none = absurd (none (IsUtf8-from_is_utf8 bytes e))
by_case bytes false e none = e

pub is_no_text : (bytes : List ℕ) → ¬ (IsUtf8 bytes) → is_utf8 bytes ≡ false
is_no_text bytes none = by_case bytes (is_utf8 bytes) refl none

by_test : (a b : Bool) → is_lt (cond a Less (cond b Equal Greater)) ≡ a
by_test true b = refl
by_test false true = refl
by_test false false = refl

-- the order of numbers is their test
pub below_is : (x y : ℕ) → is_lt (nat_cmp x y) ≡ ltb x y
below_is x y = by_test (ltb x y) (eqb x y)

not_zero : (n : ℕ) (b : Bool) → eqb (suc n) 0 ≡ b → false ≡ b
not_zero n true e = absurd (omega (arith, eqb-true (suc n) 0 e))
not_zero n false e = refl

-- a list without members
pub empty_is : (l : List ℕ) → is_empty l ≡ eqb (length l) 0
empty_is [] = refl
empty_is (b ∷ bs) = not_zero (length bs) (eqb (suc (length bs)) 0) refl

pub ruleset tests = (arith, below_is, empty_is)

-- a list from a place on
pub left_at : (xs : List ℕ) (i : ℕ) → i < length xs → drop i xs ≡ get_or xs i 0 ∷ drop (i + 1) xs
left_at xs i lt = rw add-one (drop-cons xs i 0 lt)

-- there are as many names as answers
pub names_long : {A : Type 0} (f : A → List ℕ) (xs : List A) → length (map f xs) ≡ length xs
names_long f xs = length-map xs f

pub ruleset lengths = (names_long)
