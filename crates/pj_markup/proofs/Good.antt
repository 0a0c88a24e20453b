-- What holds of each state that the reader comes to.
use Rattle.std.proofs.Common.{◌≡◌, ℕ, suc, ◌+◌, ◌*◌, ◌-◌, ◌≤◌, Bool, true, false, List, [], length, Option, Some, None, refl, arith}
use Rattle.std.specs.Prelude.{IsTrue, if◌then◌else◌, ◌==◌, ◌&&◌, nat_le, slice_get}
use Rattle.std.specs.Str.{encode_utf8_all}
use Rattle.std.proofs.lemmas.Bool.{eqb-true, leb-true, le-leb}
use Rattle.std.proofs.lemmas.Bool.Decides.{nat_tests}
use Rattle.std.proofs.lemmas.Option.{slice_get_within}
use Rattle.pj_markup.specs.Characters.{is_between, is_space, starts_name, continues_name, is_quote, base, digit, greatest, is_scalar}
use Rattle.pj_markup.specs.Markup.{has_name}
use Rattle.pj_markup.specs.States.{Frame, Ground, Outside, Inside, Target, Content, Value, Word, Dashes, OpenSection, Empty, EndName, Entity, Long, State, Begin, On, Less, Bang, Letters, Until, TagName, Tag, TagSpace, AttributeName, Equals, Quote, InValue, EndSpace, Reference, ReferenceA, Hash, Digit, Digits, letters, repeated, times, put, may_start, behind_word, spelled, on_ground, on_less, on_slash, on_bang, on_letter, on_long, on_tag, on_equals, on_reference, on_reference_a, first_digit, next_digit, step, start_tag}
use Rattle.pj_markup.proofs.Sound.{and_both}

-- the character at the offset led to the state
abbrev pub Good : ℕ → ℕ → State → Type 0
Good at c (Letters w k) = suc k ≤ length (letters w)
Good at c (Digits t h n) = IsTrue (nat_le n greatest)
Good at c (Less g less) = (c ≡ 60) × (less ≡ at)
Good at c Begin = Unit {0}
Good at c (On g) = Unit {0}
Good at c (Bang g) = Unit {0}
Good at c (Until l k) = Unit {0}
Good at c (TagName f) = Unit {0}
Good at c (Tag f) = Unit {0}
Good at c (TagSpace f) = Unit {0}
Good at c (AttributeName f name) = Unit {0}
Good at c (Equals f name) = Unit {0}
Good at c (Quote f name) = Unit {0}
Good at c (InValue f name quote value) = Unit {0}
Good at c (EndSpace f) = Unit {0}
Good at c (Reference t) = Unit {0}
Good at c (ReferenceA t) = Unit {0}
Good at c (Hash t) = Unit {0}
Good at c (Digit t h) = Unit {0}

abbrev pub AllGood : ℕ → ℕ → Option State → Type 0
AllGood at c None = Unit {0}
AllGood at c (Some s) = Good at c s

module _ (at c : ℕ) where
  either : (b : Bool) (x y : Option State) → (b ≡ true → AllGood at c x) → (b ≡ false → AllGood at c y) → AllGood at c (if b then x else y)
  either true x y f g = f refl
  either false x y f g = g refl

  good_put : (t : Target) (d : ℕ) → Good at c (put t d)
  good_put (Content f) d = tt
  good_put (Value f name quote value) d = tt

  good_behind : (w : Word) → Good at c (behind_word w)
  good_behind (Dashes g) = tt
  good_behind (OpenSection f) = tt
  good_behind (Empty f) = tt
  good_behind (EndName f) = tt
  good_behind (Entity t word d) = good_put t d

  good_spelled : (w : Word) (k : ℕ) → k ≤ length (letters w) → Good at c (spelled w k)
  good_spelled w k le = by (k == length (letters w)) refl
    where
      by : (b : Bool) → (k == length (letters w)) ≡ b → Good at c (if b then behind_word w else Letters w k)
      by true e = good_behind w
      by false e = grind (arith, nat_tests)

  good_letter : (w : Word) (k : ℕ) (o : Option ℕ) → slice_get (letters w) k ≡ o → AllGood at c (on_letter w k c o)
  good_letter w k None is = tt
  good_letter w k (Some l) is = let lt = slice_get_within (letters w) k l is in either (c == l) _ _ (λ p. good_spelled w (suc k) (omega arith)) (λ p. tt)

  good_ground : (g : Ground) → AllGood at c (on_ground g at c)
  good_ground (Outside rows) = either (is_space c) _ _ (λ p. tt) (λ p. either (c == 60) _ _ (λ q. (eqb-true c 60 q, refl)) (λ q. tt))
  good_ground (Inside f) = either (c == 60) _ _ (λ q. (eqb-true c 60 q, refl)) (λ q. either (c == 38) _ _ (λ q. tt) (λ q. tt))

  good_slash : (g : Ground) → AllGood at c (on_slash g c)
  good_slash (Outside rows) = tt
  good_slash (Inside f) = either (c == 47) _ _ (λ p. good_spelled (EndName f) 0 (omega arith)) (λ p. tt)

  good_start : (g : Ground) (less : ℕ) → Good at c (start_tag g less c)
  good_start (Outside rows) less = tt
  good_start (Inside f) less = tt

  good_less : (g : Ground) (less : ℕ) → AllGood at c (on_less g less c)
  good_less g less =
      either (c == 33) _ _ (λ p. tt) (λ p. either (c == 63) _ _ (λ p. tt) (λ p. either (starts_name c && may_start g) _ _ (λ p. good_start g less) (λ p. good_slash g)))

  good_bang : (g : Ground) → AllGood at c (on_bang g c)
  good_bang (Outside rows) = either (c == 45) _ _ (λ p. omega arith) (λ p. tt)
  good_bang (Inside f) = either (c == 45) _ _ (λ p. omega arith) (λ p. either (c == 91) _ _ (λ p. omega arith) (λ p. tt))

  good_long : (l : Long) (k : ℕ) → AllGood at c (on_long l k c)
  good_long l k =
      either (c == repeated l) _ _ (λ p. either (k == times l) _ _ (λ p. tt) (λ p. tt)) (λ p. either ((c == 62) && (k == times l)) _ _ (λ p. tt) (λ p. tt))

  good_tag : (f : Frame) → AllGood at c (on_tag f c)
  good_tag f = either (is_space c) _ _ (λ p. tt) (λ p. either (c == 47) _ _ (λ p. omega arith) (λ p. either (c == 62) _ _ (λ p. tt) (λ p. tt)))

  good_equals : (f : Frame) (name : List ℕ) → AllGood at c (on_equals f name c)
  good_equals f name = either (is_space c) _ _ (λ p. tt) (λ p. either (c == 61) _ _ (λ p. tt) (λ p. tt))

  good_reference : (t : Target) → AllGood at c (on_reference t c)
  good_reference t =
      either (c == 108) _ _ (λ p. omega arith) (λ p. either (c == 103) _ _ (λ p. omega arith) (λ p. either (c == 113) _ _ (λ p. omega arith)
      (λ p. either (c == 97) _ _ (λ p. tt) (λ p. either (c == 35) _ _ (λ p. tt) (λ p. tt)))))

  good_reference_a : (t : Target) → AllGood at c (on_reference_a t c)
  good_reference_a t = either (c == 109) _ _ (λ p. omega arith) (λ p. either (c == 112) _ _ (λ p. omega arith) (λ p. tt))

  -- a digit is small
  small : (h : Bool) (d : ℕ) → digit h c ≡ Some d → IsTrue (nat_le d greatest)
  small h d is = le-leb d greatest (small_by (is_between 48 57 c) refl is)
    where
      some : {x y : ℕ} → Some x ≡ Some y → x ≡ y
      some e = cc

      third : (b : Bool) → (h && is_between 65 70 c) ≡ b → (if b then Some (c - 55) else None) ≡ Some d → d ≤ 1114111
      third true p e = let (a, q) = and_both h (is_between 65 70 c) p in let (u, v) = and_both (nat_le 65 c) (nat_le c 70) q in let le = leb-true c 70 v in let s : c - 55 ≡ d = some e in omega arith
      third false p e = absurd (cc)

      second : (b : Bool) → (h && is_between 97 102 c) ≡ b → (if b then Some (c - 87) else (if h && is_between 65 70 c then Some (c - 55) else None)) ≡ Some d → d ≤ 1114111
      second true p e = let (a, q) = and_both h (is_between 97 102 c) p in let (u, v) = and_both (nat_le 97 c) (nat_le c 102) q in let le = leb-true c 102 v in let s : c - 87 ≡ d = some e in omega arith
      second false p e = third (h && is_between 65 70 c) refl e

      small_by : (b : Bool) → is_between 48 57 c ≡ b →
          (if b then Some (c - 48) else (if h && is_between 97 102 c then Some (c - 87) else (if h && is_between 65 70 c then Some (c - 55) else None))) ≡ Some d → d ≤ 1114111
      small_by true p e = let (u, v) = and_both (nat_le 48 c) (nat_le c 57) p in let le = leb-true c 57 v in let s : c - 48 ≡ d = some e in omega arith
      small_by false p e = second (h && is_between 97 102 c) refl e

  good_first : (t : Target) (h : Bool) (o : Option ℕ) → digit h c ≡ o → AllGood at c (first_digit t h o)
  good_first t h None is = tt
  good_first t h (Some d) is = small h d is

  good_next : (t : Target) (h : Bool) (n : ℕ) (o : Option ℕ) → AllGood at c (next_digit t h n o)
  good_next t h n None = tt
  good_next t h n (Some d) = either (nat_le (n * base h + d) greatest) _ _ (λ p. p) (λ p. tt)

  pub good_step : (s : State) → AllGood at c (step at s c)
  good_step Begin = either (c == 65279) _ _ (λ p. tt) (λ p. good_ground (Outside []))
  good_step (On g) = good_ground g
  good_step (Less g less) = good_less g less
  good_step (Bang g) = good_bang g
  good_step (Letters w k) = good_letter w k (slice_get (letters w) k) refl
  good_step (Until l k) = good_long l k
  good_step (TagName f) = either (continues_name c) _ _ (λ p. tt) (λ p. good_tag f)
  good_step (Tag f) = good_tag f
  good_step (TagSpace f) = either (starts_name c) _ _ (λ p. tt) (λ p. good_tag f)
  good_step (AttributeName f name) =
      either (continues_name c) _ _ (λ p. tt) (λ p. either (has_name (encode_utf8_all name) f.element.attributes) _ _ (λ p. tt) (λ p. good_equals f name))
  good_step (Equals f name) = good_equals f name
  good_step (Quote f name) = either (is_space c) _ _ (λ p. tt) (λ p. either (is_quote c) _ _ (λ p. tt) (λ p. tt))
  good_step (InValue f name quote value) =
      either (c == quote) _ _ (λ p. tt) (λ p. either (c == 60) _ _ (λ p. tt) (λ p. either (c == 38) _ _ (λ p. tt) (λ p. tt)))
  good_step (EndSpace f) = either (is_space c) _ _ (λ p. tt) (λ p. either (c == 62) _ _ (λ p. tt) (λ p. tt))
  good_step (Reference t) = good_reference t
  good_step (ReferenceA t) = good_reference_a t
  good_step (Hash t) = either (c == 120) _ _ (λ p. tt) (λ p. good_first t false (digit false c) refl)
  good_step (Digit t h) = good_first t h (digit h c) refl
  good_step (Digits t h n) = either (c == 59) _ _ (λ p. either (is_scalar n) _ _ (λ p. good_put t n) (λ p. tt)) (λ p. good_next t h n (digit h c))
