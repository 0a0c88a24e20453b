-- Values of integer literals: a decimal number that may be too large, and the low bits of any number.
use Rattle.std.proofs.Common.{◌≡◌, ◌≢◌, cond, eqb, ℕ, ◌+◌, ◌*◌, ◌^◌, ◌%◌, ◌/◌, ◌<◌, List, [], ◌∷◌, ◌++◌, Bool, true, false, Option, Some, None, MatchOption, sym, ap, ◌∙◌, subst, arith, pos, ℤ, lit<}
use Rattle.std.specs.Option.{SomeIff}
use Rattle.std.specs.Char.{digit_value, is_digit}
use Rattle.std.specs.Int.{w32, w64, int_wrap, cast_signed}
use mir.Val.{bits, SFits, of_z, to_z}
use Rattle.std.proofs.lemmas.Int.{SFits-int_wrap, to_z-of_z}
use Rattle.std.proofs.Math.Nat.{mod-mod, add-mod}
use Rattle.std.proofs.lemmas.Nat.{mul-mod_first, mod-pow-add, mod_low, mod_below}
use Rattle.std.proofs.lemmas.Bool.Decides.{nat_tests}
use Rattle.pj_literals.specs.Digits.{number_in}
use Rattle.pj_literals.specs.IntegerValue.{radix_of, is_long, integer_value}
use Rattle.pj_literals.proofs.DigitLaws.{number_in_more}

-- a decimal number with one more digit, where it is below a limit
pub decimal_more : (limit : ℕ) (ys : List ℕ) (c d : ℕ) (v r : Option ℕ) → SomeIff v (number_in 10 ys < limit) (number_in 10 ys)
    → is_digit c 10 ≡ true → digit_value c ≡ d → MatchOption v (r ≡ None) (λ b. SomeIff r (b * 10 + d < limit) (b * 10 + d))
    → SomeIff r (number_in 10 (ys ++ c ∷ []) < limit) (number_in 10 (ys ++ c ∷ []))
decimal_more limit ys c d None r h i e m =
    let next = number_in_more 10 ys c i in
    subst (λ o. SomeIff o (number_in 10 (ys ++ c ∷ []) < limit) (number_in 10 (ys ++ c ∷ []))) (sym m) (λ below. h (omega (arith, next)))
decimal_more limit ys c d (Some b) r h i e m =
    let next : b * 10 + d ≡ number_in 10 (ys ++ c ∷ []) = omega (arith, number_in_more 10 ys c i, h.1) in
    subst (λ n. SomeIff r (n < limit) n) next m

-- a number with one more digit, in what is left of it below a limit
pub low_more : (limit radix : ℕ) (ys : List ℕ) (c d v : ℕ) → v ≡ number_in radix ys % limit → is_digit c radix ≡ true → digit_value c ≡ d
    → (v * radix % limit + d) % limit ≡ number_in radix (ys ++ c ∷ []) % limit
low_more limit radix ys c d v h i e =
    add-mod (v * radix % limit) d limit
    ∙ ap (λ x. (x + d % limit) % limit) (mod-mod (v * radix) limit ∙ ap (λ x. x * radix % limit) h ∙ mul-mod_first (number_in radix ys) radix limit)
    ∙ sym (add-mod (number_in radix ys * radix) d limit)
    ∙ ap (λ x. (number_in radix ys * radix + x) % limit) (sym e)
    ∙ ap (λ x. x % limit) (sym (number_in_more radix ys c i))

low_half : (n : ℕ) → n % 2 ^ 64 % 2 ^ 32 ≡ n % 2 ^ 32
low_half n = ap (λ x. x % 2 ^ 32) (mod-pow-add n 32 32) ∙ mod_low (n / 2 ^ 32 % 2 ^ 32) 32 (n % 2 ^ 32) (mod_below n (2 ^ 32) (lit< tt))

-- what a literal of another radix than 10 is, by its type
pub wrapped_is : (w : List ℕ) (r : ℕ) (b : Bool) → r ≡ radix_of w → r ≢ 10 → is_long w ≡ b → int_wrap (cond b w64 w32) (pos (number_in r w)) ≡ integer_value w
wrapped_is w r b h n l =
    let other : eqb (radix_of w) 10 ≡ false = grind (arith, nat_tests) in
    ap (λ x. int_wrap (cond x w64 w32) (pos (number_in r w))) (sym l)
    ∙ ap (λ x. int_wrap (cond (is_long w) w64 w32) (pos (number_in x w))) h
    ∙ ap (λ x. cond x (pos (number_in 10 w)) (int_wrap (cond (is_long w) w64 w32) (pos (number_in (radix_of w) w)))) (sym other)

-- the bits of a long, and of an int
pub long_value : (w : List ℕ) (r bits : ℕ) (z : ℤ) → r ≡ radix_of w → r ≢ 10 → is_long w ≡ true → bits ≡ number_in r w % 2 ^ 64 → z ≡ cast_signed w64 bits
    → SFits w64 (integer_value w) × (to_z w64 (of_z w64 z) ≡ integer_value w)
unfolding int_wrap
long_value w r bits z h n l g e =
    let wraps : z ≡ int_wrap w64 (pos (number_in r w)) = e ∙ ap (cast_signed w64) g in
    let value : z ≡ integer_value w = wraps ∙ wrapped_is w r true h n l in
    let fits : SFits w64 z = subst (SFits w64) (sym wraps) (SFits-int_wrap w64 (pos (number_in r w))) in
    (subst (SFits w64) value fits, to_z-of_z w64 z fits ∙ value)

pub int_value : (w : List ℕ) (r bits low : ℕ) (z y : ℤ) → r ≡ radix_of w → r ≢ 10 → is_long w ≡ false → bits ≡ number_in r w % 2 ^ 64 → low ≡ bits % 2 ^ 32
    → z ≡ cast_signed w32 low → y ≡ to_z w32 (of_z w32 z) → SFits w64 (integer_value w) × (to_z w64 (of_z w64 y) ≡ integer_value w)
unfolding int_wrap
int_value w r bits low z y h n l g k e f =
    let half : low ≡ number_in r w % 2 ^ 32 = k ∙ ap (λ x. x % 2 ^ 32) g ∙ low_half (number_in r w) in
    let wraps : z ≡ int_wrap w32 (pos (number_in r w)) = e ∙ ap (cast_signed w32) half in
    let small : SFits w32 z = subst (SFits w32) (sym wraps) (SFits-int_wrap w32 (pos (number_in r w))) in
    let same : y ≡ z = f ∙ to_z-of_z w32 z small in
    let value : y ≡ integer_value w = same ∙ wraps ∙ wrapped_is w r false h n l in
    let narrow : SFits w32 y = subst (SFits w32) (sym same) small in
    let fits : SFits w64 y = record { sfits = omega (arith, narrow.sfits) } in
    (subst (SFits w64) value fits, to_z-of_z w64 y fits ∙ value)
