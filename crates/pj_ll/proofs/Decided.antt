-- What the test of a table of productions shows.
use Rattle.std.proofs.Common.{◌≡◌, ℕ, zero, suc, ◌+◌, ◌<◌, Bool, true, false, List, [], ◌∷◌, length, Option, Some, None, refl, sym, ◌∙◌, ap, subst, inl, inr, ⊎_elim, arith}
use Rattle.std.specs.Prelude.{slice_get, ◌&&◌, ◌||◌, not, nat_lt, nat_eq, ◌⊎◌}
use Rattle.std.proofs.lemmas.Bool.{ltb-true, eqb-true, eq-eqb}
use Rattle.pj_ll.specs.Grammar.{Entry}
use Rattle.pj_ll.specs.declared.grammar.Symbol.{Symbol}
use Rattle.pj_ll.specs.declared.grammar.Symbol.TheVariants.{Terminal, Rule, LeftOut, Close}
use Rattle.pj_ll.specs.Predictive.{RuleFacts, fact_at, IsIn, nullable_of, first_of, AreFollowed, HaveNoLeftOut, HaveLeftOutFirst, AreBelow, IsChosenAt, FitsFacts, IsPredictive}
use Rattle.pj_ll.specs.Test.{contains, are_among, have_none_in, begin_within, follows_by, followed_by, none_out, out_first, below_by, null_fits, fits_by, all_fit, apart_by, apart_from, all_apart, finished_by, all_finished, predictive_by}
use Rattle.pj_ll.proofs.Lists.{some_one, and_first, and_second, and_both, in_cases, in_cond}

or_cases : (a b : Bool) → (a || b) ≡ true → (a ≡ true) ⊎ (b ≡ true)
or_cases true b e = inl refl
or_cases false b e = inr e

not_true : (a : Bool) → not a ≡ true → a ≡ true → ⊥
not_true true e h = let z = e in cc
not_true false e h = let z = h in cc

implies : (a b : Bool) → (not a || b) ≡ true → a ≡ true → b ≡ true
implies true b e h = e
implies false b e h = absurd (let z = h in cc)

then_true : (a b : Bool) → (elim a as (λ _. Bool) [ true ↦ b | false ↦ true ]) ≡ true → a ≡ true → b ≡ true
then_true true b e h = e
then_true false b e h = absurd (let z = h in cc)

both_true : (a b : Bool) → (elim a as (λ _. Bool) [ true ↦ b | false ↦ false ]) ≡ true → (a ≡ true) × (b ≡ true)
both_true true b e = (refl, e)
both_true false b e = absurd (let z = e in cc)

contains_in : (xs : List ℕ) (a : ℕ) → contains xs a ≡ true → IsIn xs a
contains_in [] a e = absurd (let z = e in cc)
contains_in (x ∷ xs) a e = ⊎_elim (λ h. inl (sym (eqb-true x a h))) (λ h. inr (contains_in xs a h)) (or_cases (nat_eq x a) _ e)

in_contains : (xs : List ℕ) (a : ℕ) → IsIn xs a → contains xs a ≡ true
in_contains [] a h = absurd h
in_contains (x ∷ xs) a (inl e) = ap (λ b. b || contains xs a) (eq-eqb x a (sym e))
in_contains (x ∷ xs) a (inr h) = or_second (nat_eq x a) _ (in_contains xs a h)
  where
    or_second : (a b : Bool) → b ≡ true → (a || b) ≡ true
    or_second true b e = refl
    or_second false b e = e

among_case : (x y : ℕ) (xs ys : List ℕ) (a : ℕ) (b : Bool) → nat_eq x y ≡ b →
    (elim b as (λ _. Bool) [ true ↦ are_among xs ys | false ↦ are_among (x ∷ xs) ys ]) ≡ true →
    (are_among xs ys ≡ true → IsIn xs a → IsIn ys a) → (are_among (x ∷ xs) ys ≡ true → IsIn (x ∷ xs) a → IsIn ys a) →
    IsIn (x ∷ xs) a → IsIn (y ∷ ys) a
among_case x y xs ys a true is e tails all (inl h) = inl (h ∙ eqb-true x y is)
among_case x y xs ys a true is e tails all (inr h) = inr (tails e h)
among_case x y xs ys a false is e tails all h = inr (all e h)

among : (ys xs : List ℕ) (a : ℕ) → are_among xs ys ≡ true → IsIn xs a → IsIn ys a
among [] [] a e h = absurd h
among [] (x ∷ xs) a e h = absurd (let z = e in cc)
among (y ∷ ys) [] a e h = absurd h
among (y ∷ ys) (x ∷ xs) a e h =
    among_case x y xs ys a (nat_eq x y) refl e (λ k. among ys xs a k) (λ k. among ys (x ∷ xs) a k) h

none_both : (xs ys : List ℕ) (a : ℕ) → have_none_in xs ys ≡ true → IsIn xs a → IsIn ys a → ⊥
none_both [] ys a e h k = h
none_both (x ∷ xs) ys a e (inl h) k = not_true (contains ys x) (and_first _ _ e) (in_contains ys x (subst (IsIn ys) h k))
none_both (x ∷ xs) ys a e (inr h) k = none_both xs ys a (and_second (not (contains ys x)) _ e) h k

module _ (fs : List RuleFacts) where
  begins : (set : List ℕ) (ss : List Symbol) (a : ℕ) → begin_within fs set ss ≡ true → IsIn (first_of fs ss) a → IsIn set a
  begins set [] a e h = absurd h
  begins set (Terminal t ∷ ss) a e (inl h) = subst (IsIn set) (sym h) (contains_in set t e)
  begins set (Terminal t ∷ ss) a e (inr h) = absurd h
  begins set (LeftOut t ∷ ss) a e (inl h) = subst (IsIn set) (sym h) (contains_in set t e)
  begins set (LeftOut t ∷ ss) a e (inr h) = absurd h
  begins set (Close ∷ ss) a e h = begins set ss a e h
  begins set (Rule n ∷ ss) a e h = ⊎_elim
      (λ k. among set (fact_at fs n).first a (and_first _ _ e) k)
      (λ k. let (null, within) = in_cond (fact_at fs n).nullable (first_of fs ss) a k in
      begins set ss a (then_true (fact_at fs n).nullable _ (and_second (are_among (fact_at fs n).first set) _ e) null) within)
      (in_cases (fact_at fs n).first _ a h)

  followed : (n : ℕ) (ss : List Symbol) → followed_by fs n ss ≡ true → AreFollowed fs n ss
  followed n [] e = tt
  followed n (Terminal t ∷ ss) e = followed n ss e
  followed n (LeftOut t ∷ ss) e = followed n ss e
  followed n (Close ∷ ss) e = followed n ss e
  followed n (Rule m ∷ ss) e =
      let here = and_first _ (followed_by fs n ss) e in
      let known = and_first (nat_lt m (length fs) && begin_within fs (fact_at fs m).follow ss) _ here in
      let null = and_second (nat_lt m (length fs) && begin_within fs (fact_at fs m).follow ss) _ here in
      let same = then_true (nullable_of fs ss) (follows_by fs n m) null in (
        record {
          known = ltb-true m (length fs) (and_first _ _ known);
          first = λ a h. begins (fact_at fs m).follow ss a (and_second (nat_lt m (length fs)) _ known) h;
          follow = λ h a k. among (fact_at fs m).follow (fact_at fs n).follow a (and_first _ _ (same h)) k;
          ends = λ h k. implies (fact_at fs n).ends _ (and_second (are_among (fact_at fs n).follow (fact_at fs m).follow) _ (same h)) k;
        },
        followed n ss (and_second ((nat_lt m (length fs) && begin_within fs (fact_at fs m).follow ss) && (elim (nullable_of fs ss) [ true ↦ follows_by fs n m | false ↦ true ])) _ e),
      )

  kept : (ss : List Symbol) → none_out ss ≡ true → HaveNoLeftOut ss
  kept [] e = tt
  kept (Terminal t ∷ ss) e = kept ss e
  kept (LeftOut t ∷ ss) e = absurd (let z = e in cc)
  kept (Close ∷ ss) e = kept ss e
  kept (Rule n ∷ ss) e = kept ss e

  out : (ss : List Symbol) → out_first ss ≡ true → HaveLeftOutFirst ss
  out [] e = tt
  out (s ∷ ss) e = kept ss e

  below : (h : ℕ) (ss : List Symbol) → below_by fs h ss ≡ true → AreBelow fs h ss
  below h [] e = tt
  below h (Terminal t ∷ ss) e = below h ss e
  below h (LeftOut t ∷ ss) e = absurd (let z = e in cc)
  below h (Close ∷ ss) e = below h ss e
  below h (Rule n ∷ ss) e = (ltb-true _ h (and_first _ _ e), below h ss (and_second (nat_lt (fact_at fs n).height h) _ e))

  fits : (x : Entry) → fits_by fs x ≡ true → FitsFacts fs x
  fits x e =
      let ss = x.symbols in
      let null = then_true (nullable_of fs ss) (null_fits fs x) (and_first _ _ e) in
      let e1 = and_second (elim (nullable_of fs ss) [ true ↦ null_fits fs x | false ↦ true ]) _ e in
      let e2 = and_second (begin_within fs (fact_at fs x.rule).first ss) _ e1 in
      let e3 = and_second (begin_within fs x.on ss) _ e2 in
      let e4 = and_second (followed_by fs x.rule ss) _ e3 in
      record {
        nullable = λ h. and_first _ _ (null h);
        first = λ a h. begins (fact_at fs x.rule).first ss a (and_first _ _ e1) h;
        followed = followed x.rule ss (and_first _ _ e3);
        left_out = out ss (and_first _ _ e4);
        lighter = ltb-true _ _ (and_second (out_first ss) _ e4);
        on_first = λ a h. begins x.on ss a (and_first _ _ e2) h;
        on_follow = λ h a k. among x.on (fact_at fs x.rule).follow a (and_first _ _ (and_second (fact_at fs x.rule).nullable _ (null h))) k;
        on_end = λ h k. implies (fact_at fs x.rule).ends _
            (and_second (are_among (fact_at fs x.rule).follow x.on) _ (and_second (fact_at fs x.rule).nullable _ (null h))) k;
      }

  each : (ps : List Entry) (p : ℕ) (x : Entry) → all_fit fs ps ≡ true → slice_get ps p ≡ Some x → FitsFacts fs x
  each [] p x e at = absurd (let z = at in cc)
  each (y ∷ ps) zero x e at = subst (FitsFacts fs) (some_one at) (fits y (and_first _ _ e))
  each (y ∷ ps) (suc p) x e at = each ps p x (and_second (fits_by fs y) _ e) at

  finishes : (ps : List Entry) (n : ℕ) → finished_by fs n ps ≡ true →
      (p : ℕ) × ((x : Entry) × (slice_get ps p ≡ Some x) × (x.rule ≡ n) × AreBelow fs (fact_at fs n).height x.symbols)
  finishes [] n e = absurd (let z = e in cc)
  finishes (y ∷ ps) n e = ⊎_elim
      (λ h. let (same, low) = both_true (nat_eq y.rule n) _ h in (0, (y, refl, eqb-true y.rule n same, below (fact_at fs n).height y.symbols low)))
      (λ h. let (p, (x, at, rule, low)) = finishes ps n h in (suc p, (x, at, rule, low)))
      (or_cases _ (finished_by fs n ps) e)

  finished : (ps : List Entry) (rs : List RuleFacts) (k n : ℕ) → all_finished fs ps rs k ≡ true → n < length rs → finished_by fs (k + n) ps ≡ true
  finished ps [] k n e lt = absurd (omega arith)
  finished ps (r ∷ rs) k zero e lt = let z : k ≡ k + 0 = omega arith in subst (λ m. finished_by fs m ps ≡ true) z (and_first _ _ e)
  finished ps (r ∷ rs) k (suc n) e lt =
      let z : (k + 1) + n ≡ k + suc n = omega arith in
      subst (λ m. finished_by fs m ps ≡ true) z (finished ps rs (k + 1) n (and_second (finished_by fs k ps) _ e) (omega arith))

apart : (x y : Entry) (a : Option ℕ) → apart_by x y ≡ true → x.rule ≡ y.rule → IsChosenAt x a → IsChosenAt y a → ⊥
apart x y (Some a) e same h k =
    let both = then_true (nat_eq x.rule y.rule) _ e (eq-eqb x.rule y.rule same) in
    none_both x.on y.on a (and_first _ _ both) h k
apart x y None e same h k =
    let both = then_true (nat_eq x.rule y.rule) _ e (eq-eqb x.rule y.rule same) in
    not_true (x.at_end && y.at_end) (and_second (have_none_in x.on y.on) _ both) (and_both x.at_end y.at_end h k)

apart_at : (x y : Entry) (ps : List Entry) (q : ℕ) (a : Option ℕ) → apart_from x ps ≡ true → slice_get ps q ≡ Some y → x.rule ≡ y.rule →
    IsChosenAt x a → IsChosenAt y a → ⊥
apart_at x y [] q a e at same h k = let z = at in cc
apart_at x y (z ∷ ps) zero a e at same h k = apart x y a (subst (λ w. apart_by x w ≡ true) (some_one at) (and_first _ _ e)) same h k
apart_at x y (z ∷ ps) (suc q) a e at same h k = apart_at x y ps q a (and_second (apart_by x z) _ e) at same h k

one : (ps : List Entry) (p q : ℕ) (x y : Entry) (a : Option ℕ) → all_apart ps ≡ true → slice_get ps p ≡ Some x → slice_get ps q ≡ Some y →
    x.rule ≡ y.rule → IsChosenAt x a → IsChosenAt y a → p ≡ q
one [] p q x y a e at there same h k = absurd (let z = at in cc)
one (z ∷ ps) zero zero x y a e at there same h k = refl
one (z ∷ ps) zero (suc q) x y a e at there same h k =
    absurd (apart_at x y ps q a (subst (λ w. apart_from w ps ≡ true) (some_one at) (and_first _ _ e)) there same h k)
one (z ∷ ps) (suc p) zero x y a e at there same h k =
    absurd (apart_at y x ps p a (subst (λ w. apart_from w ps ≡ true) (some_one there) (and_first _ _ e)) at (sym same) k h)
one (z ∷ ps) (suc p) (suc q) x y a e at there same h k = ap suc (one ps p q x y a (and_second (apart_from z ps) _ e) at there same h k)

pub predictive_from_test : (fs : List RuleFacts) (ps : List Entry) → predictive_by fs ps ≡ true → IsPredictive fs ps
predictive_from_test fs ps e =
    let start = and_first (nat_lt 0 (length fs) && (fact_at fs 0).ends) _ e in
    let e1 = and_second (nat_lt 0 (length fs) && (fact_at fs 0).ends) _ e in
    let e2 = and_second (all_fit fs ps) _ e1 in
    record {
      some = ltb-true 0 (length fs) (and_first _ _ start);
      ends = and_second (nat_lt 0 (length fs)) _ start;
      each = λ p x at. each fs ps p x (and_first _ _ e1) at;
      one = λ p q x y a at there same h k. one ps p q x y a (and_first _ _ e2) at there same h k;
      finished = λ n lt. finishes fs ps n (let z : 0 + n ≡ n = omega arith in subst (λ m. finished_by fs m ps ≡ true) z (finished fs ps fs 0 n (and_second (all_apart ps) _ e2) lt));
    }
