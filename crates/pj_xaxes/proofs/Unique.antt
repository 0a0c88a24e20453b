-- Two lists in strict order with the same members are one list.
use Rattle.std.proofs.Common.{◌≡◌, ℕ, true, false, ◌||◌, List, [], ◌∷◌, refl, sym, ◌∙◌, subst, ap, true≢false}
use Rattle.std.specs.Prelude.{Option}
use Rattle.std.specs.List.{list_any, AllByRecursion}
use Rattle.std.specs.List.Sorted.{IsStrictlySortedBy}
use Rattle.std.specs.Cmp.{IsTotalOrder, nat_cmp_total, then_total, on_total}
use Rattle.std.specs.Cmp.Lexicographic.{options_total}
use Rattle.std.specs.Ordering.{eq_by_cmp, is_eq, ordering_reverse}
use Rattle.std.specs.declared.cmp.Ordering.{Ordering}
use Rattle.std.specs.declared.cmp.Ordering.TheVariants.{Less, Equal, Greater}
use Rattle.pj_xaxes.specs.Order.{position_of, position_order, document_order}

pub position_total : IsTotalOrder position_order
position_total = then_total (on_total (λ (p : Option ℕ × Option ℕ). p.0) (options_total nat_cmp_total)) (on_total (λ (p : Option ℕ × Option ℕ). p.1) (options_total nat_cmp_total))

pub document_total : IsTotalOrder document_order
document_total = on_total position_of position_total

module _ {K : Type 0} (R : K → K → Ordering) (o : IsTotalOrder R) where
  not_less : (x y : K) → R x y ≡ Less → eq_by_cmp R x y ≡ false
  not_less x y l = ap is_eq l

  -- what is below all of them is not among them
  absent : (x : K) (ys : List K) → AllByRecursion (λ y. R x y ≡ Less) ys → list_any (eq_by_cmp R x) ys ≡ false
  absent x [] h = refl
  absent x (y ∷ ys) h = ap (λ b. b || list_any (eq_by_cmp R x) ys) (not_less x y h.0) ∙ absent x ys h.1

  lower : (x y : K) (ys : List K) → R x y ≡ Less → AllByRecursion (λ z. R y z ≡ Less) ys → AllByRecursion (λ z. R x z ≡ Less) ys
  lower x y [] l h = tt
  lower x y (z ∷ ys) l h = (o.trans x y z l h.0, lower x y ys l h.1)

  -- the same members
  pub record SameMembers (xs ys : List K) : Type 0 where
    pub each : (q : K) → list_any (eq_by_cmp R q) xs ≡ list_any (eq_by_cmp R q) ys

  itself : (x : K) → R x x ≡ Equal
  itself x = elim (R x x) as (λ r. r ≡ ordering_reverse r → r ≡ Equal) [
    | Less ↦ λ e. cc
    | Equal ↦ λ e. refl
    | Greater ↦ λ e. cc
  ] (o.antisymm x x)

  head_in : (x : K) (xs : List K) → list_any (eq_by_cmp R x) (x ∷ xs) ≡ true
  head_in x xs = ap (λ b. b || list_any (eq_by_cmp R x) xs) (ap is_eq (itself x))

  -- what ties with x is not among what is above x
  tied_absent : (q x : K) (xs : List K) → R q x ≡ Equal → AllByRecursion (λ y. R x y ≡ Less) xs → list_any (eq_by_cmp R q) xs ≡ false
  tied_absent q x [] e h = refl
  tied_absent q x (y ∷ xs) e h = ap (λ b. b || list_any (eq_by_cmp R q) xs) (ap is_eq (o.congr q x y e ∙ h.0)) ∙ tied_absent q x xs e h.1

  tails : (x : K) (xs ys : List K) → AllByRecursion (λ y. R x y ≡ Less) xs → AllByRecursion (λ y. R x y ≡ Less) ys → SameMembers (x ∷ xs) (x ∷ ys) → SameMembers xs ys
  tails x xs ys h k m = record {
    each = λ q. elim (R q x) as (λ r. R q x ≡ r → (is_eq r || list_any (eq_by_cmp R q) xs) ≡ (is_eq r || list_any (eq_by_cmp R q) ys) → list_any (eq_by_cmp R q) xs ≡ list_any (eq_by_cmp R q) ys) [
      | Less ↦ λ is e. e
      | Greater ↦ λ is e. e
      | Equal ↦ λ is e. tied_absent q x xs is h ∙ sym (tied_absent q x ys is k)
    ] refl (m.each q);
  }

  flipped : (x y : K) → R x y ≡ Greater → R y x ≡ Less
  flipped x y g = o.antisymm y x ∙ ap ordering_reverse g

  module _ (P : K → Type 0) (same : (x y : K) → P x → P y → R x y ≡ Equal → x ≡ y) where
    pub unique : (xs ys : List K) → AllByRecursion P xs → AllByRecursion P ys → IsStrictlySortedBy R xs → IsStrictlySortedBy R ys → SameMembers xs ys → xs ≡ ys
    unfolding IsStrictlySortedBy
    unique [] [] p q h k m = refl
    unique [] (y ∷ ys) p q h k m = absurd (true≢false (sym (m.each y ∙ head_in y ys)))
    unique (x ∷ xs) [] p q h k m = absurd (true≢false (sym (head_in x xs) ∙ m.each x))
    unique (x ∷ xs) (y ∷ ys) p q h k m = elim (R x y) as (λ r. R x y ≡ r → x ∷ xs ≡ y ∷ ys) [
      | Less ↦ λ l. absurd (true≢false (sym (head_in x xs) ∙ m.each x ∙ absent x (y ∷ ys) (l, lower x y ys l k.0)))
      | Greater ↦ λ g. absurd (true≢false (sym (m.each y ∙ head_in y ys) ∙ absent y (x ∷ xs) (flipped x y g, lower y x xs (flipped x y g) h.0)))
      | Equal ↦ λ e.
          let one = same x y p.0 q.0 e in
          let ks : AllByRecursion (λ z. R x z ≡ Less) ys = subst (λ w. AllByRecursion (λ z. R w z ≡ Less) ys) (sym one) k.0 in
          let ms : SameMembers (x ∷ xs) (x ∷ ys) = subst (λ w. SameMembers (x ∷ xs) (w ∷ ys)) (sym one) m in
          (λ i. one i ∷ unique xs ys p.1 q.1 h.1 k.1 (tails x xs ys h.0 ks ms) i)
    ] refl
