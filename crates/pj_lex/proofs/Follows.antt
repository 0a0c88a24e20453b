-- The states of the scanner stand for the rules that are left behind each character.
use Rattle.std.proofs.Common.{◌≡◌, ℕ, suc, zero, ◌<◌, ◌≤◌, Bool, true, false, ◌==◌, ◌&&◌, ◌||◌, List, sym, refl, ap, ◌∙◌, subst, arith, ⊎_elim}
use Rattle.std.proofs.lemmas.Bool.{ne_eqb, cases_eq, cases_Bool, leb-true}
use Rattle.std.proofs.lemmas.Bool.Decides.{nat_tests}
use Rattle.std.specs.Prelude.{nat_le}
use Rattle.unicode_ident.specs.Ident.{is_xid_start, is_xid_continue}
use Rattle.unicode_ident.proofs.IdentLemmas.{is_xid_start-ascii, is_xid_continue-ascii}
use Rattle.pj_lex.specs.Characters.{CharSet, The, JavaLetter, JavaLetterOrDigit, Digit, NonZeroDigit, HexDigit, OctalDigit, BinaryDigit, ZeroToThree, IntegerSuffix, FloatSuffix, HexMark, BinaryMark, ExponentMark, BinaryExponentMark, SignMark, LineEnd, InputCharacter, SingleCharacter, StringCharacter, TextBlockCharacter, TextBlockWhiteSpace, EscapeLetter, NotEscape, NotStar, NotStarNotSlash, AnyCharacter, holds}
use Rattle.pj_lex.specs.Rules.{Rule, rules}
use Rattle.pj_lex.specs.States.{step, spelled, first_step}
use Rattle.pj_lex.specs.declared.state.State.{State}
use Rattle.pj_lex.specs.declared.state.State.TheVariants as s
use Rattle.pj_patterns.specs.Derivatives.{derive_rules, spells_none}
use Rattle.pj_lex.proofs.Meaning.{ascii, wide, meaning, meaning_of, table, four, left_behind, led_to, left_wide, led_wide}
use Rattle.pj_lex.proofs.SignMeaning.{sign_goes_on, sign_spells, sign_wide}
use Rattle.pj_lex.proofs.IntegerMeaning.{int_goes_on, int_spells, int_wide}
use Rattle.pj_lex.proofs.HexMeaning.{hex_goes_on, hex_spells, hex_wide}
use Rattle.pj_lex.proofs.FloatMeaning.{float_goes_on, float_spells, float_wide}
use Rattle.pj_lex.proofs.CharMeaning.{char_goes_on, char_spells, char_wide}
use Rattle.pj_lex.proofs.TextMeaning.{string_goes_on, string_spells, string_wide}
use Rattle.pj_lex.proofs.BlockMeaning.{block_goes_on, block_spells, block_wide}
use Rattle.pj_lex.proofs.CommentMeaning.{comment_goes_on, comment_spells, comment_wide}

ascii_goes_on : (q : State) → left_behind (meaning q) ≡ led_to q
unfolding rules meaning first_step
ascii_goes_on s.Start = refl
ascii_goes_on s.Name = refl
ascii_goes_on s.BadEnd = refl
ascii_goes_on (s.Sign q) = sign_goes_on q
ascii_goes_on (s.Integer q) = int_goes_on q
ascii_goes_on (s.Hex q) = hex_goes_on q
ascii_goes_on (s.Float q) = float_goes_on q
ascii_goes_on (s.Char q) = char_goes_on q
ascii_goes_on (s.Text q) = string_goes_on q
ascii_goes_on (s.Block q) = block_goes_on q
ascii_goes_on (s.Comment q) = comment_goes_on q

wide_goes_on : (q : State) → left_wide (meaning q) ≡ led_wide q
unfolding rules meaning first_step
wide_goes_on s.Start = refl
wide_goes_on s.Name = refl
wide_goes_on s.BadEnd = refl
wide_goes_on (s.Sign q) = sign_wide q
wide_goes_on (s.Integer q) = int_wide q
wide_goes_on (s.Hex q) = hex_wide q
wide_goes_on (s.Float q) = float_wide q
wide_goes_on (s.Char q) = char_wide q
wide_goes_on (s.Text q) = string_wide q
wide_goes_on (s.Block q) = block_wide q
wide_goes_on (s.Comment q) = comment_wide q

pub spells : (q : State) → spells_none (meaning q) ≡ spelled q
unfolding rules meaning first_step
spells s.Start = refl
spells s.Name = refl
spells s.BadEnd = refl
spells (s.Sign q) = sign_spells q
spells (s.Integer q) = int_spells q
spells (s.Hex q) = hex_spells q
spells (s.Float q) = float_spells q
spells (s.Char q) = char_spells q
spells (s.Text q) = string_spells q
spells (s.Block q) = block_spells q
spells (s.Comment q) = comment_spells q

table_at : (f g : ℕ → List Rule) (n c : ℕ) → table f n ≡ table g n → c < n → f c ≡ g c
table_at f g zero c e h = absurd (omega (arith, h))
table_at f g (suc n) c e h =
    let first : f n ≡ g n = cc in
    let rest : table f n ≡ table g n = cc in
    ⊎_elim
    (λ (q : c ≡ n). ap f q ∙ first ∙ ap g (sym q))
    (λ (q : c ≡ n → ⊥). table_at f g n c rest (omega (arith, h, q)))
    (cases_eq c n)

four_at : (f g : Bool → Bool → List Rule) (a b : Bool) → four f ≡ four g → f a b ≡ g a b
four_at f g true true e = cc
four_at f g true false e = cc
four_at f g false true e = cc
four_at f g false false e = cc

pub holds_ascii : (c : ℕ) → c < 128 → (s : CharSet) → holds s c ≡ ascii c s
holds_ascii c h JavaLetter = ap (λ b. b || (c == 95) || (c == 36)) (is_xid_start-ascii c h)
holds_ascii c h JavaLetterOrDigit = ap (λ b. b || (c == 95) || (c == 36)) (is_xid_continue-ascii c h)
holds_ascii c h s = refl

or_false : (b : Bool) → (b || false) ≡ b
or_false true = refl
or_false false = refl

no_other : (b x y : Bool) → x ≡ false → y ≡ false → (b || x || y) ≡ b
no_other b x y e f = (λ i. b || e i || f i) ∙ or_false (b || false) ∙ or_false b

module _ (c : ℕ) (h : 128 ≤ c) where
  wide_the : (n : ℕ) (b : Bool) → nat_le n 127 ≡ b → (b && (c == n)) ≡ false
  wide_the n false e = refl
  wide_the n true e = ne_eqb c n (let small : n ≤ 127 = leb-true _ _ e in λ q. omega (arith, q, small, h))

  holds_wide : (s : CharSet) → holds s c ≡ wide (is_xid_start c) (is_xid_continue c) s
  holds_wide (The n) = wide_the n (nat_le n 127) refl
  holds_wide JavaLetter = no_other (is_xid_start c) (c == 95) (c == 36) (grind (arith, nat_tests, h)) (grind (arith, nat_tests, h))
  holds_wide JavaLetterOrDigit = no_other (is_xid_continue c) (c == 95) (c == 36) (grind (arith, nat_tests, h)) (grind (arith, nat_tests, h))
  holds_wide Digit = grind (arith, nat_tests, h)
  holds_wide NonZeroDigit = grind (arith, nat_tests, h)
  holds_wide HexDigit = grind (arith, nat_tests, h)
  holds_wide OctalDigit = grind (arith, nat_tests, h)
  holds_wide BinaryDigit = grind (arith, nat_tests, h)
  holds_wide ZeroToThree = grind (arith, nat_tests, h)
  holds_wide IntegerSuffix = grind (arith, nat_tests, h)
  holds_wide FloatSuffix = grind (arith, nat_tests, h)
  holds_wide HexMark = grind (arith, nat_tests, h)
  holds_wide BinaryMark = grind (arith, nat_tests, h)
  holds_wide ExponentMark = grind (arith, nat_tests, h)
  holds_wide BinaryExponentMark = grind (arith, nat_tests, h)
  holds_wide SignMark = grind (arith, nat_tests, h)
  holds_wide LineEnd = grind (arith, nat_tests, h)
  holds_wide InputCharacter = grind (arith, nat_tests, h)
  holds_wide SingleCharacter = grind (arith, nat_tests, h)
  holds_wide StringCharacter = grind (arith, nat_tests, h)
  holds_wide TextBlockCharacter = grind (arith, nat_tests, h)
  holds_wide TextBlockWhiteSpace = grind (arith, nat_tests, h)
  holds_wide EscapeLetter = grind (arith, nat_tests, h)
  holds_wide NotEscape = grind (arith, nat_tests, h)
  holds_wide NotStar = grind (arith, nat_tests, h)
  holds_wide NotStarNotSlash = grind (arith, nat_tests, h)
  holds_wide AnyCharacter = refl

-- at a character the rules that a state stands for go on as the state does
pub goes_on : (c : ℕ) (q : State) → derive_rules (λ s. holds s c) (meaning q) ≡ meaning_of (step (λ s. holds s c) q)
goes_on c q = ⊎_elim
    (λ (h : nat_le 128 c ≡ true).
    let tests : ◌≡◌ {A = CharSet → Bool} (λ s. holds s c) (wide (is_xid_start c) (is_xid_continue c)) = λ i s. holds_wide c (leb-true _ _ h) s i in
    subst (λ (is : CharSet → Bool). derive_rules is (meaning q) ≡ meaning_of (step is q)) (sym tests)
    (four_at (λ a b. derive_rules (wide a b) (meaning q)) (λ a b. meaning_of (step (wide a b) q)) _ _ (wide_goes_on q)))
    (λ (h : nat_le 128 c ≡ false).
    let small : c < 128 = grind (arith, nat_tests, h) in
    let tests : ◌≡◌ {A = CharSet → Bool} (λ s. holds s c) (ascii c) = λ i s. holds_ascii c small s i in
    subst (λ (is : CharSet → Bool). derive_rules is (meaning q) ≡ meaning_of (step is q)) (sym tests)
    (table_at (λ d. derive_rules (ascii d) (meaning q)) (λ d. meaning_of (step (ascii d) q)) 128 c (ascii_goes_on q) small))
    (cases_Bool (nat_le 128 c))
