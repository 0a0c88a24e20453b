-- What is interpreted, by the cases of JLS 3.10.7.
use Rattle.std.proofs.Common.{◌≡◌, ◌≢◌, ◌==◌, ℕ, List, [], ◌∷◌, ◌++◌, Bool, true, false, cond, eqb, ◌&&◌, inl, inr, take, sym, refl, ap, ◌∙◌, subst, arith}
use Rattle.std.specs.List.{list_any}
use Rattle.std.proofs.lemmas.Bool.{or_parts}
use Rattle.std.proofs.lemmas.Bool.Decides.{nat_tests}
use Rattle.pj_lex.specs.Characters.{holds, OctalDigit, ZeroToThree, is_escape_letter}
use Rattle.pj_lex.specs.Pattern.{Matches}
use Rattle.pj_lex.specs.Quoted.{octal_escape}
use Rattle.pj_lex.specs.Rules.{heads}
use Rattle.pj_literals.specs.Digits.{number}
use Rattle.pj_literals.specs.Escapes.{octal_length, letter_value, escape_value, escape_length, interpreted_behind, interpreted}
use Rattle.pj_literals.specs.Spellings.{IsWholeEscape}

pub plain : (c : ℕ) (cs : List ℕ) → c ≢ 92 → interpreted (c ∷ cs) ≡ c ∷ interpreted cs
plain c cs n =
    let other : eqb c 92 ≡ false = grind (arith, nat_tests) in
    ap (λ b. cond b (escape_value cs ++ interpreted_behind (escape_length cs) cs) (c ∷ interpreted cs)) other

not_octal : (c : ℕ) → is_escape_letter c ≡ true → holds OctalDigit c ≡ false
not_octal c h = grind (arith, nat_tests)

not_feed : (c : ℕ) → is_escape_letter c ≡ true → eqb c 10 ≡ false
not_feed c h = grind (arith, nat_tests)

pub letter : (c : ℕ) (cs : List ℕ) → is_escape_letter c ≡ true → interpreted (92 ∷ c ∷ cs) ≡ letter_value c ∷ interpreted cs
letter c cs h =
    ap (λ b. cond b (number 8 (take (octal_length (c ∷ cs)) (c ∷ cs)) ∷ []) (cond (eqb c 10) [] (letter_value c ∷ [])) ++ interpreted_behind (cond b (octal_length (c ∷ cs)) 1) (c ∷ cs)) (not_octal c h)
    ∙ ap (λ b. cond b [] (letter_value c ∷ []) ++ interpreted cs) (not_feed c h)

-- an octal escape of so many digits
octal_of : (d : ℕ) (cs : List ℕ) (n : ℕ) → holds OctalDigit d ≡ true → octal_length (d ∷ cs) ≡ n → interpreted (92 ∷ d ∷ cs) ≡ number 8 (take n (d ∷ cs)) ∷ interpreted_behind n (d ∷ cs)
octal_of d cs n h e =
    ap (λ b. cond b (number 8 (take (octal_length (d ∷ cs)) (d ∷ cs)) ∷ []) (cond (eqb d 10) [] (letter_value d ∷ [])) ++ interpreted_behind (cond b (octal_length (d ∷ cs)) 1) (d ∷ cs)) h
    ∙ ap (λ k. number 8 (take k (d ∷ cs)) ∷ interpreted_behind k (d ∷ cs)) e

zero_to_three : (c : ℕ) → holds ZeroToThree c ≡ true → holds OctalDigit c ≡ true
zero_to_three c h = grind (arith, nat_tests)

one_digit : (d : ℕ) (cs : List ℕ) → holds OctalDigit d ≡ true → IsWholeEscape (d ∷ []) cs → interpreted (92 ∷ d ∷ cs) ≡ number 8 (d ∷ []) ∷ interpreted cs
one_digit d [] h whole = octal_of d [] 1 h refl
one_digit d (e ∷ cs) h whole =
    let P : Bool → Type 0 = λ b. holds OctalDigit e ≡ b → octal_length (d ∷ e ∷ cs) ≡ 1 in
    octal_of d (e ∷ cs) 1 h
    ((elim (holds OctalDigit e) as P [
      | true ↦ λ (g : holds OctalDigit e ≡ true). absurd (whole e cs refl (inr (inl (d ∷ [], (e ∷ [], refl, (d, refl, h), (e, refl, g))))))
      | false ↦ λ (g : holds OctalDigit e ≡ false). ap (λ b. cond b (cond (holds ZeroToThree d && heads (λ c. holds OctalDigit c) cs) 3 2) 1) g
    ]) refl)

third : (a b : ℕ) (cs : List ℕ) → holds OctalDigit b ≡ true → IsWholeEscape (a ∷ b ∷ []) cs → (holds ZeroToThree a && heads (λ c. holds OctalDigit c) cs) ≡ false
third a b [] h whole = elim (holds ZeroToThree a) as (λ x. (x && false) ≡ false) [ true ↦ refl | false ↦ refl ]
third a b (e ∷ cs) h whole =
    let P : Bool → Type 0 = λ x. holds ZeroToThree a ≡ x → (x && holds OctalDigit e) ≡ false in
    let Q : Bool → Type 0 = λ y. holds ZeroToThree a ≡ true → holds OctalDigit e ≡ y → y ≡ false in
    (elim (holds ZeroToThree a) as P [
      | true ↦ λ (f : holds ZeroToThree a ≡ true). (elim (holds OctalDigit e) as Q [
        | true ↦ λ (z : holds ZeroToThree a ≡ true) (g : holds OctalDigit e ≡ true). absurd (whole e cs refl (inr (inr (a ∷ [], (b ∷ e ∷ [], refl, (a, refl, z), (b ∷ [], (e ∷ [], refl, (b, refl, h), (e, refl, g))))))))
        | false ↦ λ _ _. refl
      ]) f refl
      | false ↦ λ _. refl
    ]) refl

two_digits : (a b : ℕ) (cs : List ℕ) → holds OctalDigit a ≡ true → holds OctalDigit b ≡ true → IsWholeEscape (a ∷ b ∷ []) cs → interpreted (92 ∷ a ∷ b ∷ cs) ≡ number 8 (a ∷ b ∷ []) ∷ interpreted cs
two_digits a b cs g h whole =
    octal_of a (b ∷ cs) 2 g
    (ap (λ x. cond x (cond (holds ZeroToThree a && heads (λ c. holds OctalDigit c) cs) 3 2) 1) h ∙ ap (λ x. cond x 3 2) (third a b cs h whole))

three_digits : (a b c : ℕ) (cs : List ℕ) → holds ZeroToThree a ≡ true → holds OctalDigit b ≡ true → holds OctalDigit c ≡ true → interpreted (92 ∷ a ∷ b ∷ c ∷ cs) ≡ number 8 (a ∷ b ∷ c ∷ []) ∷ interpreted cs
three_digits a b c cs f g h =
    octal_of a (b ∷ c ∷ cs) 3 (zero_to_three a f)
    (ap (λ x. cond x (cond (holds ZeroToThree a && holds OctalDigit c) 3 2) 1) g ∙ ap (λ x. cond (x && holds OctalDigit c) 3 2) f ∙ ap (λ x. cond x 3 2) h)

pub octal : (digits cs : List ℕ) → Matches octal_escape digits → IsWholeEscape digits cs → interpreted (92 ∷ (digits ++ cs)) ≡ number 8 digits ∷ interpreted cs
octal digits cs (inl (d, e, h)) whole =
    let P : List ℕ → Type 0 = λ x. IsWholeEscape x cs → interpreted (92 ∷ (x ++ cs)) ≡ number 8 x ∷ interpreted cs in
    subst P (sym e) (λ w. one_digit d cs h w) whole
octal digits cs (inr (inl (u, (v, s, (a, e, g), (b, f, h))))) whole =
    let P : List ℕ → Type 0 = λ x. IsWholeEscape x cs → interpreted (92 ∷ (x ++ cs)) ≡ number 8 x ∷ interpreted cs in
    let is : digits ≡ a ∷ b ∷ [] = s ∙ ap (λ (x : List ℕ). x ++ v) e ∙ ap (λ (x : List ℕ). a ∷ x) f in
    subst P (sym is) (λ w. two_digits a b cs g h w) whole
octal digits cs (inr (inr (u, (v, s, (a, e, f), (x, (y, t, (b, i, g), (c, j, h))))))) whole =
    let P : List ℕ → Type 0 = λ z. IsWholeEscape z cs → interpreted (92 ∷ (z ++ cs)) ≡ number 8 z ∷ interpreted cs in
    let tail : v ≡ b ∷ c ∷ [] = t ∙ ap (λ (z : List ℕ). z ++ y) i ∙ ap (λ (z : List ℕ). b ∷ z) j in
    let is : digits ≡ a ∷ b ∷ c ∷ [] = s ∙ ap (λ (z : List ℕ). z ++ v) e ∙ ap (λ (z : List ℕ). a ∷ z) tail in
    subst P (sym is) (λ _. three_digits a b c cs f g h) whole

pub continued : (cs : List ℕ) → interpreted (92 ∷ 10 ∷ cs) ≡ interpreted cs
continued cs = refl

pub unescaped : (cs : List ℕ) → list_any (λ c. c == 92) cs ≡ false → interpreted cs ≡ cs
unescaped [] h = refl
unescaped (c ∷ cs) h =
    let parts = or_parts _ _ h in
    ap (λ b. cond b (escape_value cs ++ interpreted_behind (escape_length cs) cs) (c ∷ interpreted cs)) parts.0
    ∙ ap (λ (x : List ℕ). c ∷ x) (unescaped cs parts.1)
