-- What parents say of ancestors in a syntax tree.
use Rattle.std.proofs.Common.{◌≡◌, ℕ, zero, suc, ◌+◌, ◌-◌, ◌<◌, ◌≤◌, Bool, true, false, ◌||◌, IsTrue, List, [], ◌∷◌, length, nat_eq, Option, None, Some, refl, sym, ◌∙◌, ap, subst, inl, inr, ◌⊎◌, arith}
use Rattle.std.specs.List.{list_any}
use Rattle.std.specs.Option.{MatchOption, IsSomeAnd}
use Rattle.std.proofs.lemmas.Bool.{false≢true, or_cases, or_left, or_right, eqb-true, eq-eqb}
use Rattle.pj_tree.specs.declared.node.Node.{Node}
use Rattle.pj_tree.specs.Tree.{Tree, IsSyntaxTree, parent_of, ancestors_of, is_descendant, is_node_or_ancestor}
use Rattle.pj_xaxes.specs.Axes.{node}

module _ (t : Tree) (s : IsSyntaxTree t) where
  -- whether k is a descendant of a
  abbrev pub below : ℕ → ℕ → Bool
  below k a = is_descendant t (node k) (node a)

  abbrev pub above : ℕ → Option Node
  above k = parent_of t (node k)

  -- the descendant of a node is below the node's parent, or that is it
  pub below-parent : (k a : ℕ) (q : Node) → k < length t.nodes → above k ≡ Some q → below k a ≡ (nat_eq q.0 a || below q.0 a)
  below-parent k a q h is =
      let list : ancestors_of t (node k) ≡ q ∷ ancestors_of t q
      = subst (λ (o : Option Node). MatchOption o (ancestors_of t (node k) ≡ []) (λ p. ancestors_of t (node k) ≡ p ∷ ancestors_of t p)) is (s.ancestry (node k) h) in
      ap (λ (xs : List Node). list_any (λ x. nat_eq x.0 a) xs) list

  pub below-root : (k a : ℕ) → k < length t.nodes → above k ≡ None → below k a ≡ false
  below-root k a h is =
      let list : ancestors_of t (node k) ≡ []
      = subst (λ (o : Option Node). MatchOption o (ancestors_of t (node k) ≡ []) (λ p. ancestors_of t (node k) ≡ p ∷ ancestors_of t p)) is (s.ancestry (node k) h) in
      ap (λ (xs : List Node). list_any (λ x. nat_eq x.0 a) xs) list

  some_none : {A : Type 0} {q : Node} → Some q ≡ None → A
  some_none e = absurd (cc)

  -- a parent comes before
  pub parent-before : (k : ℕ) (q : Node) → k < length t.nodes → above k ≡ Some q → q.0 < k
  parent-before zero q h is = some_none (sym is ∙ s.root)
  parent-before (suc k) q h is = subst (λ (o : Option Node). IsSomeAnd o (λ p. p.0 < suc k)) is (s.below (node (suc k)) (omega arith) h)

  -- what is below something has a parent, which is it or is below it
  pub record HasParent (k a : ℕ) : Type 0 where
    pub parent : Node
    pub is : above k ≡ Some parent
    pub before : parent.0 < k
    pub at : (parent.0 ≡ a) ⊎ (below parent.0 a ≡ true)

  pub has_parent : (k a : ℕ) → k < length t.nodes → below k a ≡ true → HasParent k a
  has_parent k a h is = elim (above k) as (λ o. above k ≡ o → HasParent k a) [
    | None ↦ λ none. absurd (false≢true (sym (below-root k a h none) ∙ is))
    | Some q ↦ λ some. record {
      parent = q;
      is = some;
      before = parent-before k q h some;
      at = elim (or_cases (nat_eq q.0 a) (below q.0 a) (sym (below-parent k a q h some) ∙ is)) [
        | inl same ↦ inl (eqb-true q.0 a same)
        | inr up ↦ inr up
      ];
    }
  ] refl

  -- an ancestor comes before
  before_within : (f k a : ℕ) → k < f → k < length t.nodes → below k a ≡ true → a < k
  before_within zero k a l h is = absurd (omega arith)
  before_within (suc f) k a l h is =
      let p = has_parent k a h is in
      elim p.at [
        | inl same ↦ omega (arith, p.before, same)
        | inr up ↦ (let low : a < p.parent.0 = before_within f p.parent.0 a (omega (arith, p.before)) (omega (arith, p.before)) up in omega (arith, p.before))
      ]

  pub ancestor-before : (k a : ℕ) → k < length t.nodes → below k a ≡ true → a < k
  ancestor-before k a h is = before_within (suc k) k a (omega arith) h is

  -- what is below something has a parent that comes not before it
  pub parent-from : (k a : ℕ) (q : Node) → k < length t.nodes → below k a ≡ true → above k ≡ Some q → a ≤ q.0
  parent-from k a q h is some =
      let before = parent-before k q h some in
      elim (or_cases (nat_eq q.0 a) (below q.0 a) (sym (below-parent k a q h some) ∙ is)) [
        | inl same ↦ omega (arith, eqb-true q.0 a same)
        | inr up ↦ omega (arith, ancestor-before q.0 a (omega arith) up)
      ]

  -- a child is below its parent
  pub child-below : (k : ℕ) (q : Node) → k < length t.nodes → above k ≡ Some q → below k q.0 ≡ true
  child-below k q h some = below-parent k q.0 q h some ∙ or_left (nat_eq q.0 q.0) (below q.0 q.0) (eq-eqb q.0 q.0 refl)

  -- what is below a node is below what that is below
  trans_within : (f k p a : ℕ) → k < f → k < length t.nodes → below k p ≡ true → below p a ≡ true → below k a ≡ true
  trans_within zero k p a l h is up = absurd (omega arith)
  trans_within (suc f) k p a l h is up =
      let q = has_parent k p h is in
      let higher : below q.parent.0 a ≡ true = elim q.at [
        | inl same ↦ subst (λ (x : ℕ). below x a ≡ true) (sym same) up
        | inr more ↦ trans_within f q.parent.0 p a (omega (arith, q.before)) (omega (arith, q.before)) more up
      ] in
      below-parent k a q.parent h q.is ∙ or_right (nat_eq q.parent.0 a) (below q.parent.0 a) higher

  pub below-trans : (k p a : ℕ) → k < length t.nodes → below k p ≡ true → below p a ≡ true → below k a ≡ true
  below-trans k p a h is up = trans_within (suc k) k p a (omega arith) h is up

  -- what is below a node behind is below it one number before, where that is behind the node too
  one_before : (n a : ℕ) → n + 1 < length t.nodes → a < n → below (n + 1) a ≡ true → below n a ≡ true
  one_before n a h low is =
      let p = has_parent (n + 1) a h is in
      let order : IsTrue (is_node_or_ancestor t p.parent (node n)) = subst (λ (o : Option Node). IsSomeAnd o (λ x. IsTrue (is_node_or_ancestor t x (node n)))) p.is (s.preorder (node n) h) in
      elim (or_cases (nat_eq n p.parent.0) (below n p.parent.0) order) [
        | inl same ↦ elim p.at [
          | inl at ↦ absurd (omega (arith, eqb-true n p.parent.0 same, at))
          | inr up ↦ subst (λ (x : ℕ). below x a ≡ true) (sym (eqb-true n p.parent.0 same)) up
        ]
        | inr higher ↦ elim p.at [
          | inl at ↦ subst (λ (x : ℕ). below n x ≡ true) at higher
          | inr up ↦ below-trans n p.parent.0 a (omega arith) higher up
        ]
      ]

  between_within : (f m a : ℕ) → m + f < length t.nodes → a < m → below (m + f) a ≡ true → below m a ≡ true
  between_within zero m a h low is = (let at : m + 0 ≡ m = omega arith in subst (λ (x : ℕ). below x a ≡ true) at is)
  between_within (suc f) m a h low is =
      let at : m + suc f ≡ (m + f) + 1 = omega arith in
      between_within f m a (omega arith) low (one_before (m + f) a (omega arith) (omega arith) (subst (λ (x : ℕ). below x a ≡ true) at is))

  -- the descendants of a node stand together: what is between a node and a descendant of it is one
  pub below-between : (n m a : ℕ) → n < length t.nodes → a < m → m ≤ n → below n a ≡ true → below m a ≡ true
  below-between n m a h low high is =
      let at : m + (n - m) ≡ n = omega arith in
      between_within (n - m) m a (omega arith) low (subst (λ (x : ℕ). below x a ≡ true) (sym at) is)
