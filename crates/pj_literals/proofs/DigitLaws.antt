-- One more digit behind a number.
use Rattle.std.proofs.Common.{◌≡◌, ℕ, suc, ◌+◌, ◌*◌, ◌^◌, List, [], ◌∷◌, ◌++◌, true, false, cond, length, refl, ap, ◌∙◌, arith, length-append}
use Rattle.std.specs.Char.{digit_value, is_digit}
use Rattle.std.proofs.Math.Nat.{pow-suc, pow-zero}
use Rattle.std.proofs.lemmas.List.Elements.{filter-append}
use Rattle.pj_literals.specs.Digits.{number, digits_in, number_in}
use Rattle.std.proofs.lemmas.List.{append-nil}

pub number_push : (radix : ℕ) (cs : List ℕ) (d : ℕ) → number radix (cs ++ d ∷ []) ≡ number radix cs * radix + digit_value d
number_push radix [] d = let one : radix ^ 0 ≡ 1 = pow-zero radix in rw one (omega arith)
number_push radix (c ∷ cs) d =
    let longer : length (cs ++ d ∷ []) ≡ suc (length cs) = omega (arith, length-append cs (d ∷ [])) in
    let powers : radix ^ length (cs ++ d ∷ []) ≡ radix ^ length cs * radix = ap (λ n. radix ^ n) longer ∙ pow-suc radix (length cs) in
    let further = number_push radix cs d in
    grind arith

pub number_in_more : (radix : ℕ) (cs : List ℕ) (d : ℕ) → is_digit d radix ≡ true → number_in radix (cs ++ d ∷ []) ≡ number_in radix cs * radix + digit_value d
number_in_more radix cs d h =
    ap (number radix) (filter-append (λ c. is_digit c radix) cs (d ∷ []) ∙ ap (λ b. digits_in radix cs ++ cond b (d ∷ []) []) h)
    ∙ number_push radix (digits_in radix cs) d

pub number_in_same : (radix : ℕ) (cs : List ℕ) (d : ℕ) → is_digit d radix ≡ false → number_in radix (cs ++ d ∷ []) ≡ number_in radix cs
number_in_same radix cs d h =
    ap (number radix) (filter-append (λ c. is_digit c radix) cs (d ∷ []) ∙ ap (λ b. digits_in radix cs ++ cond b (d ∷ []) []) h ∙ append-nil (digits_in radix cs))

pub nil_from_length : (xs : List ℕ) → length xs ≡ 0 → xs ≡ []
nil_from_length [] e = refl
nil_from_length (x ∷ xs) e = absurd (omega arith)
