-- Rows by their numbers, and values by their names.
use Rattle.std.proofs.Common.{◌≡◌, ℕ, zero, suc, ◌+◌, ◌<◌, Bool, true, false, List, [], ◌∷◌, ◌++◌, length, Some, None, drop, get_or, refl, sym, ◌∙◌, ap, add-one, drop-cons}
use Rattle.std.specs.Prelude.{slice_get, nat_eq, if◌then◌else◌, ◌||◌, cond}
use Rattle.std.specs.List.{list_any}
use Rattle.std.specs.Ordering.{eq_by_cmp, nat_cmp}
use Rattle.std.specs.Cmp.Lexicographic.{pointwise, slice_cmp, texts_ties}
use Rattle.pj_markup.specs.Elements.{Attribute, Row, row_at, value_of}
use Rattle.pj_markup.specs.Names.{has_name, AreNames}

pub row_none : (rows : List Row) (n : ℕ) → slice_get rows n ≡ None → row_at rows n ≡ row_at [] n
row_none [] n h = refl
row_none (r ∷ rows) zero h = absurd (cc)
row_none (r ∷ rows) (suc n) h = row_none rows n h

pub row_some : (rows : List Row) (n : ℕ) (r : Row) → slice_get rows n ≡ Some r → row_at rows n ≡ r
row_some [] zero r h = absurd (cc)
row_some [] (suc n) r h = absurd (cc)
row_some (x ∷ rows) zero r h = cc
row_some (x ∷ rows) (suc n) r h = row_some rows n r h

yes : (name : List ℕ) (a : Attribute) (more : List Attribute) → pointwise nat_eq a.name name ≡ true → value_of name (a ∷ more) ≡ Some a.value
yes name a more h = ap (λ b. if b then Some a.value else value_of name more) h

not_this : (name : List ℕ) (a : Attribute) (more : List Attribute) → pointwise nat_eq a.name name ≡ false → value_of name (a ∷ more) ≡ value_of name more
not_this name a more h = ap (λ b. if b then Some a.value else value_of name more) h

pub value_here : (name : List ℕ) (all : List Attribute) (i : ℕ) (a : Attribute) → i < length all → a ≡ get_or all i a → pointwise nat_eq a.name name ≡ true → value_of name (drop i all) ≡ Some a.value
value_here name all i a lt is h = ap (value_of name) (drop-cons all i a lt ∙ ap (λ x. x ∷ drop (suc i) all) (sym is)) ∙ yes name a (drop (suc i) all) h

pub value_later : (name : List ℕ) (all : List Attribute) (i : ℕ) (a : Attribute) → i < length all → a ≡ get_or all i a → pointwise nat_eq a.name name ≡ false →
    value_of name (drop i all) ≡ value_of name (drop (i + 1) all)
value_later name all i a lt is h =
    ap (value_of name) (drop-cons all i a lt ∙ ap (λ x. x ∷ drop (suc i) all) (sym is)) ∙ not_this name a (drop (suc i) all) h ∙ ap (λ k. value_of name (drop k all)) (sym (add-one i))

-- names with one more

has_more : (name : List ℕ) (all : List Attribute) (a : Attribute) → has_name name (all ++ a ∷ []) ≡ (has_name name all || (pointwise nat_eq a.name name || false))
has_more name [] a = refl
has_more name (x ∷ all) a = grown (pointwise nat_eq x.name name) (has_name name all) (pointwise nat_eq a.name name || false) (has_name name (all ++ a ∷ [])) (has_more name all a)
  where
    grown : (p q r t : Bool) → t ≡ (q || r) → (p || t) ≡ ((p || q) || r)
    grown true q r t h = refl
    grown false q r t h = h

turned : (a b : Bool) → cond a true b ≡ (b || (a || false))
turned true true = refl
turned true false = refl
turned false true = refl
turned false false = refl

pub more_names : (keys new : List (List ℕ)) (all : List Attribute) (copy : List ℕ) (a : Attribute) → copy ≡ a.name → AreNames keys all →
    ((q : List ℕ) → list_any (eq_by_cmp (slice_cmp nat_cmp) q) new ≡ cond (eq_by_cmp (slice_cmp nat_cmp) copy q) true (list_any (eq_by_cmp (slice_cmp nat_cmp) q) keys)) →
    AreNames new (all ++ a ∷ [])
more_names keys new all copy a is are updates q =
    updates q ∙ turned (eq_by_cmp (slice_cmp nat_cmp) copy q) (list_any (eq_by_cmp (slice_cmp nat_cmp) q) keys)
    ∙ ap (λ b. b || (eq_by_cmp (slice_cmp nat_cmp) copy q || false)) (are q)
    ∙ ap (λ b. has_name q all || (b || false)) (sym (texts_ties copy q) ∙ ap (λ x. pointwise nat_eq x q) is)
    ∙ sym (has_more q all a)
