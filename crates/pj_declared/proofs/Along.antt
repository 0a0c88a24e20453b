-- What is meant at a place, node by node from the inside out.
use Rattle.std.proofs.Common.{ℕ, zero, suc, ◌≡◌, ◌<◌, ◌⊎◌, Bool, true, false, ◌&&◌, nat_eq, nat_le, ◌==◌, List, [], ◌∷◌, filter, Option, None, IsPermutation, Contains, length, get_or, refl, ap, sym, ◌∙◌, subst, inl, inr, ⊎_elim, true≢false, arith}
use Rattle.std.specs.List.{list_any}
use Rattle.std.specs.Cmp.Lexicographic.{pointwise}
use Rattle.std.proofs.lemmas.Bool.{and_parts, and_from, or_cases, or_left, or_right, eqb-true, eq-eqb}
use Rattle.std.proofs.lemmas.List.Sorted.{Contains-permutation, IsPermutation-sym}
use Rattle.pj_tree.specs.Tree.{Tree, ancestors_of}
use Rattle.pj_tree.specs.declared.node.Node.{Node}
use Rattle.pj_declared.specs.declared.named.Named.{Named}
use Rattle.pj_declared.specs.declared.nearest.Declared.{Declared}
use Rattle.pj_declared.specs.Nearest.{declared_by, nearer_of, nearest, is_meant, meant_among}
use Rattle.pj_declared.specs.Table.{is_of, is_open}
use Rattle.pj_declared.proofs.Nearer.{IsOf, nearest_one, nearest_same, nearest_either, nearest_is, nearer_assoc}

of_some : (p q : Named → Bool) (xs : List Named) (d : Declared) → ((x : Named) → p x ≡ true → q x ≡ true) → IsOf p xs d → IsOf q xs d
of_some p q [] d f h = h
of_some p q (x ∷ xs) d f (inl h) = inl (f x h.0, h.1)
of_some p q (x ∷ xs) d f (inr h) = inr (of_some p q xs d f h)

of_either : (p q r : Named → Bool) (xs : List Named) (d : Declared) → ((x : Named) → p x ≡ true → (q x ≡ true) ⊎ (r x ≡ true)) → IsOf p xs d → IsOf q xs d ⊎ IsOf r xs d
of_either p q r [] d f h = absurd h
of_either p q r (x ∷ xs) d f (inl h) = ⊎_elim (λ e. inl (inl (e, h.1))) (λ e. inr (inl (e, h.1))) (f x h.0)
of_either p q r (x ∷ xs) d f (inr h) = ⊎_elim (λ e. inl (inr e)) (λ e. inr (inr e)) (of_either p q r xs d f h)

-- ---- along the nodes around

-- a row of the name that is opened at the place or before, within one of these nodes
abbrev pub open_among : List ℕ → Node → List Node → Named → Bool
open_among name place path row = pointwise nat_eq row.name name && (nat_le row.scope.opened place.0 && list_any (λ (a : Node). a.0 == row.scope.within.0) path)

flipped : (a b : ℕ) → (a == b) ≡ true → (b == a) ≡ true
flipped a b is = eq-eqb b a (sym (eqb-true a b is))

module _ (rows : List Named) (name : List ℕ) (place : Node) where
  among : List Node → Option Declared
  among path = nearest (filter (open_among name place path) rows)

  one_more : (a : Node) (path : List Node) (x : Named) → open_among name place (a ∷ path) x ≡ true → (open_among name place path x ≡ true) ⊎ (is_open name a place x ≡ true)
  one_more a path x is =
      let parts = and_parts (pointwise nat_eq x.name name) _ is in
      let inner = and_parts (nat_le x.scope.opened place.0) _ parts.1 in
      ⊎_elim
      (λ here. inr (and_from _ _ (and_from _ _ parts.0 (flipped a.0 x.scope.within.0 here)) inner.0))
      (λ there. inl (and_from _ _ parts.0 (and_from _ _ inner.0 there)))
      (or_cases (a.0 == x.scope.within.0) (list_any (λ (b : Node). b.0 == x.scope.within.0) path) inner.1)

  further : (a : Node) (path : List Node) (x : Named) → open_among name place path x ≡ true → open_among name place (a ∷ path) x ≡ true
  further a path x is =
      let parts = and_parts (pointwise nat_eq x.name name) _ is in
      let inner = and_parts (nat_le x.scope.opened place.0) _ parts.1 in
      and_from _ _ parts.0 (and_from _ _ inner.0 (or_right (a.0 == x.scope.within.0) _ inner.1))

  here_too : (a : Node) (path : List Node) (x : Named) → is_open name a place x ≡ true → open_among name place (a ∷ path) x ≡ true
  here_too a path x is =
      let parts = and_parts (is_of name a x) _ is in
      let inner = and_parts (pointwise nat_eq x.name name) _ parts.0 in
      and_from _ _ inner.0 (and_from _ _ parts.1 (or_left (a.0 == x.scope.within.0) _ (flipped x.scope.within.0 a.0 inner.1)))

  pub among_more : (a : Node) (path : List Node) → nearest (filter (open_among name place (a ∷ path)) rows) ≡ nearer_of (nearest (filter (open_among name place path) rows)) (nearest (filter (is_open name a place) rows))
  among_more a path =
      let all : Named → Bool = open_among name place (a ∷ path) in
      let rest : Named → Bool = open_among name place path in
      let here : Named → Bool = is_open name a place in
      nearest_one (IsOf all rows) (nearest (filter all rows)) (nearer_of (nearest (filter rest rows)) (nearest (filter here rows))) (nearest_is all rows)
      (nearest_same (λ d. IsOf rest rows d ⊎ IsOf here rows d) (IsOf all rows) (nearer_of (nearest (filter rest rows)) (nearest (filter here rows)))
      (λ d. ⊎_elim (of_some rest all rows d (further a path)) (of_some here all rows d (here_too a path)))
      (λ d. of_either all rest here rows d (one_more a path))
      (nearest_either (IsOf rest rows) (IsOf here rows) (nearest (filter rest rows)) (nearest (filter here rows)) (nearest_is rest rows) (nearest_is here rows)))

  pub among_none : nearest (filter (open_among name place []) rows) ≡ None
  among_none =
      nearest_one (IsOf (open_among name place []) rows) (nearest (filter (open_among name place []) rows)) None (nearest_is (open_among name place []) rows)
      (λ d h. never rows d h)
    where
      never : (xs : List Named) (d : Declared) → IsOf (open_among name place []) xs d → ⊥
      never [] d h = h
      never (x ∷ xs) d (inl h) = true≢false (sym (and_parts (nat_le x.scope.opened place.0) false (and_parts (pointwise nat_eq x.name name) _ h.0).1).1)
      never (x ∷ xs) d (inr h) = never xs d h

-- what is left to be found of nodes around, and what is known
abbrev pub IsLeft : Tree → List Named → List ℕ → Node → Node → Option Declared → Type 0
IsLeft t rows name place at known = nearer_of (nearest (filter (open_among name place (ancestors_of t at)) rows)) known ≡ meant_among t rows name place

pub left_first : (t : Tree) (rows : List Named) (name : List ℕ) (place : Node) (known : Option Declared) → known ≡ nearest (filter (is_open name place place) rows) → IsLeft t rows name place place known
left_first t rows name place known is =
    ap (nearer_of (nearest (filter (open_among name place (ancestors_of t place)) rows))) is ∙ sym (among_more rows name place place (ancestors_of t place))

pub left_next : (t : Tree) (rows : List Named) (name : List ℕ) (place at around : Node) (known found : Option Declared) → ancestors_of t at ≡ around ∷ ancestors_of t around → found ≡ nearest (filter (is_open name around place) rows) →
    IsLeft t rows name place at known → IsLeft t rows name place around (nearer_of found known)
left_next t rows name place at around known found up is left =
    let rest : Option Declared = nearest (filter (open_among name place (ancestors_of t around)) rows) in
    nearer_assoc rest found known
    ∙ ap (λ (f : Option Declared). nearer_of (nearer_of rest f) known) is
    ∙ ap (λ (r : Option Declared). nearer_of r known) (sym (among_more rows name place around (ancestors_of t around)))
    ∙ ap (λ (path : List Node). nearer_of (nearest (filter (open_among name place path) rows)) known) (sym up)
    ∙ left

pub left_last : (t : Tree) (rows : List Named) (name : List ℕ) (place at : Node) (known : Option Declared) → ancestors_of t at ≡ [] → IsLeft t rows name place at known → known ≡ meant_among t rows name place
left_last t rows name place at known top left =
    ap (λ (r : Option Declared). nearer_of r known) (sym (among_none rows name place))
    ∙ ap (λ (path : List Node). nearer_of (nearest (filter (open_among name place path) rows)) known) (sym top)
    ∙ left

-- ---- whatever the order of the rows

of_contained : (keep : Named → Bool) (xs : List Named) (i : ℕ) (x : Named) → i < length xs → get_or xs i x ≡ x → keep x ≡ true → IsOf keep xs (declared_by x.scope)
of_contained keep [] i x inside e h = absurd (omega arith)
of_contained keep (y ∷ xs) zero x inside e h = inl (ap keep e ∙ h, ap (λ (z : Named). declared_by z.scope) e)
of_contained keep (y ∷ xs) (suc i) x inside e h = inr (of_contained keep xs i x (omega arith) e h)

contained : (keep : Named → Bool) (xs : List Named) (d : Declared) → IsOf keep xs d → (x : Named) × Contains xs x × (keep x ≡ true) × (declared_by x.scope ≡ d)
contained keep [] d h = absurd h
contained keep (x ∷ xs) d (inl h) = (x, (0, omega arith, refl), h.0, h.1)
contained keep (x ∷ xs) d (inr h) = let r = contained keep xs d h in (r.0, (suc r.1.0, omega (arith, r.1.1), r.1.2), r.2, r.3)

of_moved : (keep : Named → Bool) (xs ys : List Named) → IsPermutation xs ys → (d : Declared) → IsOf keep xs d → IsOf keep ys d
of_moved keep xs ys moved d h =
    let r = contained keep xs d h in
    let at = Contains-permutation xs ys r.0 moved r.1 in
    subst (IsOf keep ys) r.3 (of_contained keep ys at.0 r.0 at.1 at.2 r.2)

pub meant_moved : (t : Tree) (xs ys : List Named) (name : List ℕ) (place : Node) → IsPermutation xs ys → meant_among t ys name place ≡ meant_among t xs name place
meant_moved t xs ys name place moved =
    let keep : Named → Bool = is_meant t name place in
    nearest_one (IsOf keep xs) (nearest (filter keep ys)) (nearest (filter keep xs))
    (nearest_same (IsOf keep ys) (IsOf keep xs) (nearest (filter keep ys)) (of_moved keep ys xs (IsPermutation-sym xs ys moved)) (of_moved keep xs ys moved) (nearest_is keep ys))
    (nearest_is keep xs)
