-- Signs, digits and literals in quotation marks spell tokens.
use Rattle.std.proofs.Common.{◌≡◌, ◌≢◌, ℕ, ◌<◌, ◌^◌, Bool, true, false, cond, ◌==◌, List, [], ◌∷◌, ◌++◌, Option, Some, None, map, length, refl, ap, ◌∙◌, arith, append_assoc}
use Rattle.std.specs.Prelude.{IsTrue}
use Rattle.std.specs.List.{All, Contains}
use Rattle.std.specs.Fmt.{decimal}
use Rattle.std.specs.Int.{IsInRange}
use Rattle.std.specs.Str.Parse.{AllDigits}
use Rattle.std.proofs.lemmas.Fmt.{decimal_is_IsNumeral}
use Rattle.std.proofs.lemmas.Str.Parse.{digit_from_value}
use Rattle.std.proofs.lemmas.List.Elements.{All-nil, All-cons, All-head, All-tail, All-contains}
use Rattle.std.proofs.lemmas.Bool.Decides.{nat_tests}
use Rattle.pj_xtokens.specs.Characters.{is_digit, starts_name, holds}
use Rattle.pj_xtokens.specs.Rules.{Spells}
use Rattle.pj_xtokens.specs.Scanning.{kind_from, kind_of}
use Rattle.pj_xtokens.specs.Signs.{Entry, signs}
use Rattle.pj_xtokens.specs.States.{step, first_step, sign_step}
use Rattle.pj_xtokens.specs.declared.characters.CharSet.TheVariants.{The, ExponentMark}
use Rattle.pj_xtokens.specs.declared.token.TokenKind.{TokenKind}
use Rattle.pj_xtokens.specs.declared.token.TokenKind.TheVariants as t
use Rattle.pj_xtokens.specs.declared.state.State.{State}
use Rattle.pj_xtokens.specs.declared.state.State.TheVariants as s
use Rattle.pj_xsyntax_laws.specs.Spaced.{written, doubled, literal}
use Rattle.pj_xsyntax_laws.proofs.WordKinds.{ToldAreSpelled, kind_next}

-- where two functions have the same values on a list, they do at each element
all_same : {A B : Type 0} (f g : A → B) (xs : List A) → map f xs ≡ map g xs → All (λ x. f x ≡ g x) xs
all_same f g [] e = All-nil (λ x. f x ≡ g x)
all_same f g (x ∷ xs) e =
    let first : f x ≡ g x = cc in
    let rest : map f xs ≡ map g xs = cc in
    All-cons (λ x. f x ≡ g x) x xs first (all_same f g xs rest)

abbrev sign_kind : Entry → Option TokenKind
sign_kind e = Some (t.Sign e.sign)

sign_kinds : map (λ e. kind_of e.text) signs ≡ map sign_kind signs
unfolding first_step sign_step
sign_kinds = refl

pub sign_spells : ToldAreSpelled → (e : Entry) → Contains signs e → Spells (t.Sign e.sign) e.text
sign_spells spells e at = spells (t.Sign e.sign) e.text (All-contains (λ e. kind_of e.text ≡ sign_kind e) signs e (all_same (λ e. kind_of e.text) sign_kind signs sign_kinds) at)

digit_no_name : (c : ℕ) → is_digit c ≡ true → starts_name c ≡ false
digit_no_name c h = grind (arith, nat_tests, h)

second_case : (a b : Bool) (x y z : Option State) → a ≡ false → b ≡ true → cond a x (cond b y z) ≡ y
second_case a b x y z e f = ap (λ u. cond u x (cond b y z)) e ∙ ap (λ u. cond u y z) f

digit_starts : (c : ℕ) → is_digit c ≡ true → step (λ s. holds s c) s.Start ≡ Some s.Integer
unfolding first_step
digit_starts c h = second_case (starts_name c) (is_digit c) _ _ _ (digit_no_name c h) h

digit_follows : (c : ℕ) → is_digit c ≡ true → step (λ s. holds s c) s.Integer ≡ Some s.Integer
digit_follows c h = ap (λ u. cond u (Some s.Integer) (cond (holds (The 46) c) (Some s.Decimal) (cond (holds ExponentMark c) (Some s.ExponentMark) None))) h

digits_follow : (ds : List ℕ) → All (λ c. IsTrue (is_digit c)) ds → kind_from ds s.Integer ≡ Some t.Integer
digits_follow [] h = refl
digits_follow (d ∷ ds) h =
    kind_next d ds s.Integer s.Integer (digit_follows d (All-head (λ c. IsTrue (is_digit c)) d ds h)) ∙ digits_follow ds (All-tail (λ c. IsTrue (is_digit c)) d ds h)

pub digits_spell : ToldAreSpelled → (ds : List ℕ) → All (λ c. IsTrue (is_digit c)) ds → ds ≢ [] → Spells t.Integer ds
digits_spell spells [] h full = absurd (full refl)
digits_spell spells (d ∷ ds) h full =
    spells t.Integer (d ∷ ds)
    (kind_next d ds s.Start s.Integer (digit_starts d (All-head (λ c. IsTrue (is_digit c)) d ds h)) ∙ digits_follow ds (All-tail (λ c. IsTrue (is_digit c)) d ds h))

digit_from : (c : ℕ) → IsInRange 48 57 c → is_digit c ≡ true
digit_from c h = grind (arith, nat_tests, h.0, h.1)

all_digits : (ds : List ℕ) → AllDigits 10 ds → All (λ c. IsTrue (is_digit c)) ds
all_digits [] h = All-nil (λ c. IsTrue (is_digit c))
all_digits (d ∷ ds) h = All-cons (λ c. IsTrue (is_digit c)) d ds (digit_from d (digit_from_value d h.0)) (all_digits ds h.1)

pub decimal_spells : ToldAreSpelled → (n : ℕ) → n < 2 ^ 64 → Spells t.Integer (decimal n)
decimal_spells spells n h =
    let numeral = decimal_is_IsNumeral n h in
    digits_spell spells (decimal n) (all_digits (decimal n) numeral.0.1) (λ e. let none : length (decimal n) ≡ 0 = ap length e in omega (arith, numeral.0.0, none))

-- the scanner within a literal comes back there behind what a character is written as
within : (c : ℕ) (b : Bool) (v : List ℕ) → (c == 34) ≡ b → kind_from (cond b (34 ∷ 34 ∷ []) (c ∷ []) ++ v) s.QuoteBody ≡ kind_from v s.QuoteBody
within c true v e = refl
within c false v e = kind_next c v s.QuoteBody s.QuoteBody (rw e)

literal_ends : (cs : List ℕ) → kind_from (doubled cs ++ 34 ∷ []) s.QuoteBody ≡ Some t.String
literal_ends [] = refl
literal_ends (c ∷ cs) =
    ap (λ (x : List ℕ). kind_from x s.QuoteBody) (append_assoc (written c) (doubled cs) (34 ∷ [])) ∙ within c (c == 34) (doubled cs ++ 34 ∷ []) refl ∙ literal_ends cs

quote_starts : step (λ s. holds s 34) s.Start ≡ Some s.QuoteBody
unfolding first_step
quote_starts = refl

pub literal_spells : ToldAreSpelled → (cs : List ℕ) → Spells t.String (literal cs)
literal_spells spells cs = spells t.String (literal cs) (kind_next 34 (doubled cs ++ 34 ∷ []) s.Start s.QuoteBody quote_starts ∙ literal_ends cs)
