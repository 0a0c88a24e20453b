-- Numbers as decimal digits, and what parsing says of them.
use Rattle.std.proofs.Common.{◌≡◌, ℕ, ◌<◌, ◌≤◌, ◌^◌, Bool, true, false, ◌&&◌, ltb, List, length, Result, Ok, Err, refl, sym, ap, ◌∙◌, arith}
use Rattle.std.specs.Str.{is_utf8, all_ascii_digits}
use Rattle.std.specs.Str.Parse.{ParsesUnsigned, digits_value}
use Rattle.std.proofs.lemmas.Bool.{le-ltb, lt-ltb, ltb-true, ltb-false}
use Rattle.std.proofs.lemmas.Str.Parse.{IsNumeralModel, numerals_by_value, tells_all_ascii_digits, parse_digits}
use Rattle.pj_old_format.specs.ListKeys.{is_number, is_top, value_of}

own : IsNumeralModel (λ ds. all_ascii_digits ds ≡ true) (digits_value 10)
own = numerals_by_value (λ ds. all_ascii_digits ds ≡ true) tells_all_ascii_digits

both : (a b : Bool) → (a && b) ≡ true → (a ≡ true) × (b ≡ true)
both true true e = (refl, refl)
both true false e = absurd cc
both false b e = absurd cc

-- a number is a text
pub number_text : (bs : List ℕ) → is_number bs ≡ true → is_utf8 bs ≡ true
number_text bs e = (both (is_utf8 bs) _ e).0

number_digits : (bs : List ℕ) → is_number bs ≡ true → (all_ascii_digits bs ≡ true) × (0 < length bs)
number_digits bs e =
    let rest = (both (is_utf8 bs) _ e).1 in
    let digits = both (all_ascii_digits bs) _ rest in
    let long = both (ltb 0 (length bs)) _ digits.1 in
    (digits.0, ltb-true 0 (length bs) long.0)

not_below : (n m : ℕ) (b : Bool) → ltb n m ≡ b → ¬ (n < m) → m ≤ n
not_below n m true e none = absurd (none (ltb-true n m e))
not_below n m false e none = omega (arith, ltb-false n m e)

-- where parsing fails, the number is too large
pub too_large : {E : Type 0} (bs : List ℕ) (e : E) → ParsesUnsigned 32 10 bs (Err e) → is_number bs ≡ true → 2 ^ 32 ≤ value_of bs
too_large {E} bs e h is =
    let digits = number_digits bs is in
    let failed : Result ℕ E = Err e in
    not_below (value_of bs) (2 ^ 32) (ltb (value_of bs) (2 ^ 32)) refl (λ below. parse_digits own 32 bs failed h digits.0 (digits.1, below))

-- where it succeeds, it is the number
pub the_number : {E : Type 0} (bs : List ℕ) (n : ℕ) (r : Result ℕ E) → r ≡ Ok n → ParsesUnsigned 32 10 bs r → is_number bs ≡ true → n ≡ value_of bs
the_number {E} bs n (Ok m) is h number =
    let same : m ≡ n = cc in
    let read : Result ℕ E = Ok m in
    sym same ∙ (parse_digits own 32 bs read h (number_digits bs number).0).1
the_number bs n (Err e) is h number = absurd cc

-- ---- numbers of top rulesets

pub no_number : (bs : List ℕ) → is_number bs ≡ false → false ≡ is_top bs
no_number bs fails = sym (ap (λ (b : Bool). b && ltb (value_of bs) (2 ^ 32)) fails)

top_by : (bs : List ℕ) (b : Bool) → is_number bs ≡ true → ltb (value_of bs) (2 ^ 32) ≡ b → b ≡ is_top bs
top_by bs b is below = sym (ap (λ (a : Bool). a && ltb (value_of bs) (2 ^ 32)) is ∙ below)

pub small_top : (bs : List ℕ) (n : ℕ) → is_number bs ≡ true → n ≡ value_of bs → n < 2 ^ 32 → true ≡ is_top bs
small_top bs n is value below = top_by bs true is (lt-ltb (value_of bs) (2 ^ 32) (omega (arith, value, below)))

pub large_top : (bs : List ℕ) → is_number bs ≡ true → 2 ^ 32 ≤ value_of bs → false ≡ is_top bs
large_top bs is large = top_by bs false is (le-ltb (value_of bs) (2 ^ 32) large)
