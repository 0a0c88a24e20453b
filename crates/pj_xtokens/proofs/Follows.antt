-- The states of the scanner stand for the rules that are left behind each character.
use Rattle.std.proofs.Common.{◌≡◌, ℕ, suc, zero, ◌<◌, ◌≤◌, Bool, true, false, ◌==◌, ◌&&◌, List, sym, refl, ap, ◌∙◌, subst, arith, ⊎_elim}
use Rattle.std.proofs.lemmas.Bool.{ne_eqb, cases_eq, cases_Bool, leb-true}
use Rattle.std.proofs.lemmas.Bool.Decides.{nat_tests}
use Rattle.std.specs.Prelude.{nat_le}
use Rattle.pj_xtokens.specs.Characters.{CharSet, The, NameStart, NameCharacter, Digit, ExponentMark, PlusOrMinus, NotQuote, NotApostrophe, holds, starts_name, continues_name}
use Rattle.pj_xtokens.specs.Rules.{Rule, rules}
use Rattle.pj_xtokens.specs.States.{step, spelled, first_step}
use Rattle.pj_xtokens.specs.declared.state.State.{State}
use Rattle.pj_xtokens.specs.declared.state.State.TheVariants as s
use Rattle.pj_patterns.specs.Derivatives.{derive_rules, spells_none}
use Rattle.pj_xtokens.proofs.Meaning.{sets_of, wide, meaning, meaning_of, table, four, left_behind, led_to, left_wide, led_wide}
use Rattle.pj_xtokens.proofs.SignMeaning.{sign_goes_on, sign_spells, sign_wide}

ascii_goes_on : (q : State) → left_behind (meaning q) ≡ led_to q
unfolding rules meaning first_step
ascii_goes_on s.Start = refl
ascii_goes_on s.Name = refl
ascii_goes_on s.NameColon = refl
ascii_goes_on s.PrefixedName = refl
ascii_goes_on s.Integer = refl
ascii_goes_on s.Decimal = refl
ascii_goes_on s.ExponentMark = refl
ascii_goes_on s.ExponentSign = refl
ascii_goes_on s.Double = refl
ascii_goes_on s.QuoteBody = refl
ascii_goes_on s.QuoteEnd = refl
ascii_goes_on s.ApostropheBody = refl
ascii_goes_on s.ApostropheEnd = refl
ascii_goes_on (s.Sign q) = sign_goes_on q

wide_goes_on : (q : State) → left_wide (meaning q) ≡ led_wide q
unfolding rules meaning first_step
wide_goes_on s.Start = refl
wide_goes_on s.Name = refl
wide_goes_on s.NameColon = refl
wide_goes_on s.PrefixedName = refl
wide_goes_on s.Integer = refl
wide_goes_on s.Decimal = refl
wide_goes_on s.ExponentMark = refl
wide_goes_on s.ExponentSign = refl
wide_goes_on s.Double = refl
wide_goes_on s.QuoteBody = refl
wide_goes_on s.QuoteEnd = refl
wide_goes_on s.ApostropheBody = refl
wide_goes_on s.ApostropheEnd = refl
wide_goes_on (s.Sign q) = sign_wide q

pub spells : (q : State) → spells_none (meaning q) ≡ spelled q
unfolding rules meaning first_step
spells s.Start = refl
spells s.Name = refl
spells s.NameColon = refl
spells s.PrefixedName = refl
spells s.Integer = refl
spells s.Decimal = refl
spells s.ExponentMark = refl
spells s.ExponentSign = refl
spells s.Double = refl
spells s.QuoteBody = refl
spells s.QuoteEnd = refl
spells s.ApostropheBody = refl
spells s.ApostropheEnd = refl
spells (s.Sign q) = sign_spells q

table_at : (f g : ℕ → List Rule) (n c : ℕ) → table f n ≡ table g n → c < n → f c ≡ g c
table_at f g zero c e h = absurd (omega (arith, h))
table_at f g (suc n) c e h =
    let first : f n ≡ g n = cc in
    let rest : table f n ≡ table g n = cc in
    ⊎_elim
    (λ (q : c ≡ n). ap f q ∙ first ∙ ap g (sym q))
    (λ (q : c ≡ n → ⊥). table_at f g n c rest (omega (arith, h, q)))
    (cases_eq c n)

four_at : (f g : Bool → Bool → List Rule) (a b : Bool) → four f ≡ four g → f a b ≡ g a b
four_at f g true true e = cc
four_at f g true false e = cc
four_at f g false true e = cc
four_at f g false false e = cc

module _ (c : ℕ) (h : 128 ≤ c) where
  wide_the : (n : ℕ) (b : Bool) → nat_le n 127 ≡ b → (b && (c == n)) ≡ false
  wide_the n false e = refl
  wide_the n true e = ne_eqb c n (let small : n ≤ 127 = leb-true _ _ e in λ q. omega (arith, q, small, h))

  holds_wide : (s : CharSet) → holds s c ≡ wide (starts_name c) (continues_name c) s
  holds_wide (The n) = wide_the n (nat_le n 127) refl
  holds_wide NameStart = refl
  holds_wide NameCharacter = refl
  holds_wide Digit = grind (arith, nat_tests, h)
  holds_wide ExponentMark = grind (arith, nat_tests, h)
  holds_wide PlusOrMinus = grind (arith, nat_tests, h)
  holds_wide NotQuote = grind (arith, nat_tests, h)
  holds_wide NotApostrophe = grind (arith, nat_tests, h)

-- at a character the rules that a state stands for go on as the state does
pub goes_on : (c : ℕ) (q : State) → derive_rules (λ s. holds s c) (meaning q) ≡ meaning_of (step (λ s. holds s c) q)
goes_on c q = ⊎_elim
    (λ (h : nat_le 128 c ≡ true).
    let tests : ◌≡◌ {A = CharSet → Bool} (λ s. holds s c) (wide (starts_name c) (continues_name c)) = λ i s. holds_wide c (leb-true _ _ h) s i in
    subst (λ (is : CharSet → Bool). derive_rules is (meaning q) ≡ meaning_of (step is q)) (sym tests)
    (four_at (λ a b. derive_rules (wide a b) (meaning q)) (λ a b. meaning_of (step (wide a b) q)) _ _ (wide_goes_on q)))
    (λ (h : nat_le 128 c ≡ false).
    let small : c < 128 = grind (arith, nat_tests, h) in
    table_at (λ d. derive_rules (sets_of d) (meaning q)) (λ d. meaning_of (step (sets_of d) q)) 128 c (ascii_goes_on q) small)
    (cases_Bool (nat_le 128 c))
