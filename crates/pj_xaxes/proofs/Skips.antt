-- What may be left out on an axis.
use Rattle.std.proofs.Common.{◌≡◌, ℕ, ◌+◌, ◌<◌, ◌≤◌, true, false, IsTrue, ◌↔◌, length, nat_eq, nat_lt, Option, None, Some, refl, subst, inl, inr, ◌⊎◌, arith}
use Rattle.std.specs.Option.{MatchOption}
use Rattle.std.proofs.lemmas.Bool.{false≢true, and_right, or_from, ne_eqb, false_from_ne_true}
use Rattle.pj_tree.specs.declared.node.Node.{Node}
use Rattle.pj_tree.specs.Tree.{Tree, IsSyntaxTree, parent_of, is_parent, is_descendant}
use Rattle.pj_xexpressions.specs.declared.axis.Axis.{Axis}
use Rattle.pj_xexpressions.specs.declared.axis.Axis.TheVariants.{Child, Descendant, SelfNode, DescendantOrSelf, FollowingSibling, Following, Parent, Ancestor, PrecedingSibling, Preceding, AncestorOrSelf}
use Rattle.pj_xaxes.specs.Axes.{node, on_axis, same_parent}
use Rattle.pj_xaxes.specs.Search.{is_over, least, reach, IsPastParent, NoneFrom}
use Rattle.pj_xaxes.proofs.Ancestry.{parent-before, has_parent, parent-from, below-between}

-- a parent from a number on is no node before it
other_parent : (o : Option Node) (n : Node) (a : ℕ) → ((q : Node) → o ≡ Some q → a ≤ q.0) → n.0 < a → is_parent n o ≡ false
other_parent None n a from low = refl
other_parent (Some q) n a from low = (let far = from q refl in ne_eqb q.0 n.0 (λ e. omega arith))

other_same : (o : Option Node) (p : Option Node) (a : ℕ) → ((q : Node) → o ≡ Some q → a ≤ q.0) → ((q : Node) → p ≡ Some q → q.0 < a) → same_parent o p ≡ false
other_same None None a from low = refl
other_same None (Some q) a from low = refl
other_same (Some q) None a from low = refl
other_same (Some q) (Some p) a from low = (let far = from q refl in let near = low p refl in ne_eqb q.0 p.0 (λ e. omega arith))

module _ (t : Tree) (s : IsSyntaxTree t) where
  -- nothing below a node has a parent before it
  over_child : (n m : Node) (k : ℕ) → k < length t.nodes → is_descendant t (node k) m ≡ true → n.0 < m.0 → is_parent n (parent_of t (node k)) ≡ false
  over_child n m k h is low = other_parent (parent_of t (node k)) n m.0 (λ q some. parent-from t s k m.0 q h is some) low

  over_sibling : (n m : Node) (k : ℕ) → n.0 < length t.nodes → k < length t.nodes → is_descendant t (node k) m ≡ true → n.0 < m.0 → same_parent (parent_of t (node k)) (parent_of t n) ≡ false
  over_sibling n m k inside h is low =
      other_same (parent_of t (node k)) (parent_of t n) m.0 (λ q some. parent-from t s k m.0 q h is some) (λ q some. (let b = parent-before t s n.0 q inside some in omega arith))

  -- stepping over a subtree
  pub stepped : (axis : Axis) (n m : Node) (end : ℕ) → n.0 < length t.nodes → end ≤ length t.nodes → ((k : Node) → IsTrue (is_descendant t k m) ↔ ((m.0 < k.0) × (k.0 < end)))
      → is_over axis ≡ true → least axis n ≤ m.0 → NoneFrom (on_axis t axis n) (m.0 + 1) end
  stepped Child n m end inside within ends over low = record { each = λ k from to. over_child n m k (omega arith) ((ends (node k)).1 (omega arith, to)) (omega arith) }
  stepped FollowingSibling n m end inside within ends over low = record {
    each = λ k from to. and_right (nat_lt n.0 k) (same_parent (parent_of t (node k)) (parent_of t n)) (over_sibling n m k inside (omega arith) ((ends (node k)).1 (omega arith, to)) (omega arith));
  }
  stepped Descendant n m end inside within ends over low = absurd (false≢true over)
  stepped SelfNode n m end inside within ends over low = absurd (false≢true over)
  stepped DescendantOrSelf n m end inside within ends over low = absurd (false≢true over)
  stepped Following n m end inside within ends over low = absurd (false≢true over)
  stepped Parent n m end inside within ends over low = absurd (false≢true over)
  stepped Ancestor n m end inside within ends over low = absurd (false≢true over)
  stepped PrecedingSibling n m end inside within ends over low = absurd (false≢true over)
  stepped Preceding n m end inside within ends over low = absurd (false≢true over)
  stepped AncestorOrSelf n m end inside within ends over low = absurd (false≢true over)

  -- what is past the parent is before no number below the parent
  past_from : (k : ℕ) (m : Node) (r : ℕ) (q : Node) → IsPastParent (parent_of t m) r → parent_of t m ≡ Some q → r ≤ k → q.0 < k
  past_from k m r q past some from =
      let at : r ≡ q.0 + 1 = subst (λ (o : Option Node). MatchOption o (r ≡ 0) (λ p. r ≡ p.0 + 1)) some past in omega arith

  -- between a node and its parent none is an ancestor of what the node is above or is
  no_ancestor : (n m : Node) (r k : ℕ) → n.0 < length t.nodes → m.0 ≤ n.0 → IsPastParent (parent_of t m) r → r ≤ k → k < m.0 → is_descendant t n (node k) ≡ false
  no_ancestor n m r k inside low past from to = false_from_ne_true (is_descendant t n (node k)) (λ is.
      let up : is_descendant t m (node k) ≡ true = below-between t s n.0 m.0 k inside to low is in
      let p = has_parent t s m.0 k (omega arith) up in
      let high : k ≤ p.parent.0 = parent-from t s m.0 k p.parent (omega arith) up p.is in
      let past_it : p.parent.0 < k = past_from k m r p.parent past p.is from in
      omega arith)

  -- from an ancestor to its parent
  pub to_parent : (axis : Axis) (n m : Node) (r : ℕ) → n.0 < length t.nodes → m.0 < reach axis n → IsPastParent (parent_of t m) r → (axis ≡ Ancestor) ⊎ (axis ≡ AncestorOrSelf)
      → NoneFrom (on_axis t axis n) r m.0
  to_parent axis n m r inside low past is = elim is [
    | inl e ↦ rw e (record { each = λ k from to. no_ancestor n m r k inside (before e) past from to })
    | inr e ↦ rw e (record {
      each = λ k from to. or_from (nat_eq k n.0) (is_descendant t n (node k)) (ne_eqb k n.0 (λ same. omega (arith, before_self e))) (no_ancestor n m r k inside (before_self e) past from to);
    })
  ]
    where
      before : axis ≡ Ancestor → m.0 ≤ n.0
      before e = (let l : m.0 < reach Ancestor n = subst (λ (a : Axis). m.0 < reach a n) e low in omega arith)

      before_self : axis ≡ AncestorOrSelf → m.0 ≤ n.0
      before_self e = (let l : m.0 < reach AncestorOrSelf n = subst (λ (a : Axis). m.0 < reach a n) e low in omega arith)
