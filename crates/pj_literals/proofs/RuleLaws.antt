-- The value of an integer literal by the rule that spells its numeral.
use Rattle.std.proofs.Common.{◌≡◌, ◌≢◌, ◌==◌, ℕ, ◌≤◌, List, [], ◌∷◌, ◌++◌, Bool, true, false, cond, eqb, not, ◌&&◌, ◌||◌, ◌⊎◌, inl, inr, sym, refl, ap, ◌∙◌, arith, pos}
use Rattle.std.specs.Int.{w32, w64, int_wrap}
use Rattle.std.specs.Char.{is_digit}
use Rattle.std.specs.List.{list_any}
use Rattle.std.proofs.lemmas.Bool.{false≢true, and_parts, or_parts}
use Rattle.std.proofs.lemmas.Bool.Decides.{nat_tests}
use Rattle.std.proofs.lemmas.List.{append-nil}
use Rattle.std.proofs.lemmas.List.Folds.{list_any-append}
use Rattle.pj_lex.specs.Characters.{CharSet, The, holds, HexMark, BinaryMark, OctalDigit, NonZeroDigit, IntegerSuffix}
use Rattle.pj_lex.specs.Numbers.{decimal_numeral, hex_numeral, octal_numeral, binary_numeral}
use Rattle.pj_lex.specs.Characters.{HexDigit, BinaryDigit}
use Rattle.pj_lex.specs.Numbers.{digits}
use Rattle.pj_lex.specs.Pattern.{Pattern, Nothing, Empty, One, Then, Either, Many, Repeats, none, more, Matches, maybe, character}
use Rattle.pj_literals.specs.Digits.{number_in}
use Rattle.pj_literals.specs.IntegerValue.{radix_behind_zero, radix_of, is_long, integer_value}
use Rattle.pj_literals.specs.Spellings.{IsNumeral, width_of, CountsBy}
use Rattle.pj_literals.proofs.DigitLaws.{number_in_same}
use Rattle.pj_literals.proofs.IntegerLaws.{wrapped_is}

-- no word of the pattern has the character
abbrev lacks : ℕ → Pattern → Bool
lacks c Nothing = true
lacks c Empty = true
lacks c (One s) = not (holds s c)
lacks c (Then p q) = lacks c p && lacks c q
lacks c (Either p q) = lacks c p && lacks c q
lacks c (Many p) = lacks c p

module _ (c : ℕ) where
  abbrev has : List ℕ → Bool
  has w = list_any (λ d. d == c) w

  none_in : (u v : List ℕ) → has u ≡ false → has v ≡ false → has (u ++ v) ≡ false
  none_in u v h g = list_any-append (λ d. d == c) u v ∙ ap (λ b. b || has v) h ∙ g

  other : (s : CharSet) (d : ℕ) → not (holds s c) ≡ true → holds s d ≡ true → has (d ∷ []) ≡ false
  other s d n h =
      (elim (eqb d c) as (λ b. eqb d c ≡ b → (b || false) ≡ false) [
        | true ↦ λ (e : eqb d c ≡ true).
            let same : d ≡ c = grind (arith, nat_tests) in
            let both : not true ≡ true = ap not (sym (sym (ap (holds s) same) ∙ h)) ∙ n in
            absurd (false≢true both)
        | false ↦ λ _. refl
      ]) refl

  lacks_repeats : (p : Pattern) → ((w : List ℕ) → Matches p w → has w ≡ false) → (w : List ℕ) → Repeats (Matches p) w → has w ≡ false
  lacks_repeats p f _ (none w e) = ap has e
  lacks_repeats p f _ (more w u v e m r) = ap has e ∙ none_in u v (f u m) (lacks_repeats p f v r)

  lacks_has : (p : Pattern) → lacks c p ≡ true → (w : List ℕ) → Matches p w → has w ≡ false
  lacks_has Nothing h w m = absurd m
  lacks_has Empty h w m = ap has m
  lacks_has (One s) h w (d, e, g) = ap has e ∙ other s d h g
  lacks_has (Then p q) h w (u, (v, e, a, b)) =
      let parts = and_parts _ _ h in
      ap has e ∙ none_in u v (lacks_has p parts.0 u a) (lacks_has q parts.1 v b)
  lacks_has (Either p q) h w (inl m) = lacks_has p (and_parts _ _ h).0 w m
  lacks_has (Either p q) h w (inr m) = lacks_has q (and_parts _ _ h).1 w m
  lacks_has (Many p) h w m = lacks_repeats p (lacks_has p h) w m

neither : (w : List ℕ) → has 108 w ≡ false → has 76 w ≡ false → is_long w ≡ false
neither [] h g = refl
neither (c ∷ w) h g =
    let a = or_parts _ _ h in
    let b = or_parts _ _ g in
    ap (λ x. (x || (c == 76)) || is_long w) a.0 ∙ ap (λ x. x || is_long w) b.0 ∙ neither w a.1 b.1

-- the suffix
abbrev IsSuffix : List ℕ → Type 0
IsSuffix s = Matches (maybe (One IntegerSuffix)) s

is_suffix : (c : ℕ) → holds IntegerSuffix c ≡ true → (c ≡ 108) ⊎ (c ≡ 76)
is_suffix c h =
    let P : Bool → Type 0 = λ b. (c == 108) ≡ b → (b || (c == 76)) ≡ true → (c ≡ 108) ⊎ (c ≡ 76) in
    (elim (c == 108) as P [
      | true ↦ λ (e : (c == 108) ≡ true) _. inl (grind (arith, nat_tests))
      | false ↦ λ _ (e : (c == 76) ≡ true). inr (grind (arith, nat_tests))
    ]) refl h

no_digit : (radix c : ℕ) → radix ≤ 16 → holds IntegerSuffix c ≡ true → is_digit c radix ≡ false
no_digit radix c small h = elim (is_suffix c h) [
  | inl e ↦ ap (λ d. is_digit d radix) e ∙ grind (arith, nat_tests)
  | inr e ↦ ap (λ d. is_digit d radix) e ∙ grind (arith, nat_tests)
]

number_suffix : (radix : ℕ) (n s : List ℕ) → radix ≤ 16 → IsSuffix s → number_in radix (n ++ s) ≡ number_in radix n
number_suffix radix n s small (inl (c, e, h)) = ap (λ (x : List ℕ). number_in radix (n ++ x)) e ∙ number_in_same radix n c (no_digit radix c small h)
number_suffix radix n s small (inr e) = ap (λ (x : List ℕ). number_in radix (n ++ x)) e ∙ ap (number_in radix) (append-nil n)

width : (s : List ℕ) → IsSuffix s → cond (is_long s) w64 w32 ≡ width_of s
width s (inl (c, e, h)) = ap (λ (x : List ℕ). cond (is_long x) w64 w32) e ∙ ap (λ b. cond (b || false) w64 w32) h ∙ ap width_of (sym e)
width s (inr e) = ap (λ (x : List ℕ). cond (is_long x) w64 w32) e ∙ ap width_of (sym e)

-- a rule without l and L, whose literals have this radix
counts_by : (rule : Pattern) (radix : ℕ) → lacks 108 rule ≡ true → lacks 76 rule ≡ true → radix ≢ 10 → radix ≤ 16
    → ((n s : List ℕ) → Matches rule n → radix_of (n ++ s) ≡ radix) → (w : List ℕ) → CountsBy rule radix w
counts_by rule radix small large other below front w n s x =
    let is = x.is in
    let short = neither n (lacks_has 108 rule small n x.numeral) (lacks_has 76 rule large n x.numeral) in
    let long : is_long w ≡ is_long s = ap is_long is ∙ list_any-append (λ c. holds IntegerSuffix c) n s ∙ ap (λ b. b || is_long s) short in
    let base : radix ≡ radix_of w = sym (ap radix_of is ∙ front n s x.numeral) in
    sym (wrapped_is w radix (is_long s) base other long)
    ∙ ap (λ v. int_wrap v (pos (number_in radix w))) (width s x.suffix)
    ∙ ap (λ k. int_wrap (width_of s) (pos k)) (ap (number_in radix) is ∙ number_suffix radix n s below x.suffix)

-- the radix by the rules
behind_zero : (a c : ℕ) (cs : List ℕ) → holds (The 48) a ≡ true → radix_of (a ∷ c ∷ cs) ≡ radix_behind_zero c
behind_zero a c cs h = ap (λ b. cond b (radix_behind_zero c) 10) h

marked : (s : CharSet) (radix : ℕ) (q : Pattern) → ((c : ℕ) → holds s c ≡ true → radix_behind_zero c ≡ radix)
    → (n t : List ℕ) → Matches (Then (character 48) (Then (One s) q)) n → radix_of (n ++ t) ≡ radix
marked s radix q f n t (u, (v, e, (a, eu, ha), (x, (y, ev, (m, ex, hm), d)))) =
    let is : n ≡ a ∷ m ∷ y = e ∙ ap (λ (z : List ℕ). z ++ v) eu ∙ ap (λ (z : List ℕ). a ∷ z) (ev ∙ ap (λ (z : List ℕ). z ++ y) ex) in
    ap (λ (z : List ℕ). radix_of (z ++ t)) is ∙ behind_zero a m (y ++ t) ha ∙ f m hm

hex_mark : (c : ℕ) → holds HexMark c ≡ true → radix_behind_zero c ≡ 16
hex_mark c h = ap (λ b. cond b 16 (cond (holds BinaryMark c) 2 (cond (holds OctalDigit c || (c == 95)) 8 10))) h

not_hex : (c : ℕ) → holds BinaryMark c ≡ true → holds HexMark c ≡ false
not_hex c h = grind (arith, nat_tests)

binary_mark : (c : ℕ) → holds BinaryMark c ≡ true → radix_behind_zero c ≡ 2
binary_mark c h =
    ap (λ b. cond b 16 (cond (holds BinaryMark c) 2 (cond (holds OctalDigit c || (c == 95)) 8 10))) (not_hex c h)
    ∙ ap (λ b. cond b 2 (cond (holds OctalDigit c || (c == 95)) 8 10)) h

octal_no_hex : (c : ℕ) → (holds OctalDigit c || (c == 95)) ≡ true → holds HexMark c ≡ false
octal_no_hex c h = grind (arith, nat_tests)

octal_no_binary : (c : ℕ) → (holds OctalDigit c || (c == 95)) ≡ true → holds BinaryMark c ≡ false
octal_no_binary c h = grind (arith, nat_tests)

octal_front : (c : ℕ) → (holds OctalDigit c || (c == 95)) ≡ true → radix_behind_zero c ≡ 8
octal_front c h =
    ap (λ b. cond b 16 (cond (holds BinaryMark c) 2 (cond (holds OctalDigit c || (c == 95)) 8 10))) (octal_no_hex c h)
    ∙ ap (λ b. cond b 2 (cond (holds OctalDigit c || (c == 95)) 8 10)) (octal_no_binary c h)
    ∙ ap (λ b. cond b 8 10) h

or_true : (b : Bool) → (b || true) ≡ true
or_true true = refl
or_true false = refl

-- underscores and an octal digit begin with one of them
octal_first : (us x ds : List ℕ) (o : ℕ) → Repeats (Matches (character 95)) us → x ≡ us ++ ds → ds ≡ o ∷ [] → holds OctalDigit o ≡ true
    → (c : ℕ) × ((cs : List ℕ) × (x ≡ c ∷ cs) × ((holds OctalDigit c || (c == 95)) ≡ true))
octal_first _ x ds o (none us e) s f h = (o, ([], s ∙ ap (λ (z : List ℕ). z ++ ds) e ∙ f, ap (λ b. b || (o == 95)) h))
octal_first _ x ds o (more us u v e (c, g, k) r) s f h =
    let line : (c == 95) ≡ true = k in
    (c, (v ++ ds, s ∙ ap (λ (z : List ℕ). z ++ ds) (e ∙ ap (λ (z : List ℕ). z ++ v) g), ap (λ b. holds OctalDigit c || b) line ∙ or_true (holds OctalDigit c)))

octal_radix : (n t : List ℕ) → Matches octal_numeral n → radix_of (n ++ t) ≡ 8
octal_radix n t (u, (v, e, (a, eu, ha), (x, (y, ev, (us, (ds, ex, r, (o, ed, ho))), d)))) =
    let first = octal_first us x ds o r ex ed ho in
    let c = first.0 in
    let cs = first.1.0 in
    let is : n ≡ a ∷ c ∷ (cs ++ y) = e ∙ ap (λ (z : List ℕ). z ++ v) eu ∙ ap (λ (z : List ℕ). a ∷ z) (ev ∙ ap (λ (z : List ℕ). z ++ y) first.1.1) in
    ap (λ (z : List ℕ). radix_of (z ++ t)) is ∙ behind_zero a c ((cs ++ y) ++ t) ha ∙ octal_front c first.1.2

-- decimal numerals
suffix_front : (c : ℕ) → holds IntegerSuffix c ≡ true → radix_behind_zero c ≡ 10
suffix_front c h = elim (is_suffix c h) [ inl e ↦ ap radix_behind_zero e | inr e ↦ ap radix_behind_zero e ]

not_zero : (c : ℕ) → holds NonZeroDigit c ≡ true → (c == 48) ≡ false
not_zero c h = grind (arith, nat_tests)

from_non_zero : (c : ℕ) (cs : List ℕ) → (c == 48) ≡ false → radix_of (c ∷ cs) ≡ 10
from_non_zero c [] h = refl
from_non_zero c (d ∷ cs) h = ap (λ b. cond b (radix_behind_zero d) 10) h

decimal_radix : (n s : List ℕ) → Matches decimal_numeral n → IsSuffix s → radix_of (n ++ s) ≡ 10
decimal_radix n s (inl (a, e, h)) (inl (c, f, g)) =
    ap (λ (z : List ℕ). radix_of (z ++ s)) e ∙ ap (λ (z : List ℕ). radix_of (a ∷ z)) f ∙ behind_zero a c [] h ∙ suffix_front c g
decimal_radix n s (inl (a, e, h)) (inr f) = ap (λ (z : List ℕ). radix_of (z ++ s)) e ∙ ap (λ (z : List ℕ). radix_of (a ∷ z)) f
decimal_radix n s (inr (u, (v, e, (c, eu, h), m))) x =
    let is : n ≡ c ∷ v = e ∙ ap (λ (z : List ℕ). z ++ v) eu in
    ap (λ (z : List ℕ). radix_of (z ++ s)) is ∙ from_non_zero c (v ++ s) (not_zero c h)

pub decimal : (w n s : List ℕ) → IsNumeral decimal_numeral w n s → integer_value w ≡ pos (number_in 10 n)
decimal w n s x =
    let is = x.is in
    let base : radix_of w ≡ 10 = ap radix_of is ∙ decimal_radix n s x.numeral x.suffix in
    let test : eqb (radix_of w) 10 ≡ true = grind (arith, nat_tests) in
    ap (λ b. cond b (pos (number_in 10 w)) (int_wrap (cond (is_long w) w64 w32) (pos (number_in (radix_of w) w)))) test
    ∙ ap (λ (z : List ℕ). pos (number_in 10 z)) is ∙ ap pos (number_suffix 10 n s (omega arith) x.suffix)

pub hexadecimal : (w : List ℕ) → CountsBy hex_numeral 16 w
hexadecimal w = counts_by hex_numeral 16 refl refl (omega arith) (omega arith) (λ n s m. marked HexMark 16 (digits HexDigit) hex_mark n s m) w

pub octal : (w : List ℕ) → CountsBy octal_numeral 8 w
octal w = counts_by octal_numeral 8 refl refl (omega arith) (omega arith) octal_radix w

pub binary : (w : List ℕ) → CountsBy binary_numeral 2 w
binary w = counts_by binary_numeral 2 refl refl (omega arith) (omega arith) (λ n s m. marked BinaryMark 2 (digits BinaryDigit) binary_mark n s m) w
