-- Between which numbers the nodes of each axis stand.
use Rattle.std.proofs.Common.{◌≡◌, ℕ, ◌+◌, ◌-◌, ◌<◌, ◌≤◌, Bool, true, false, not, ◌||◌, IsTrue, ◌↔◌, length, nat_eq, nat_lt, Option, None, Some, sym, ◌∙◌, ap, subst, inl, inr, arith}
use Rattle.std.specs.Option.{MatchOption}
use Rattle.std.proofs.lemmas.Bool.{false≢true, and_parts, or_cases, eqb-true, ltb-true, false_from_ne_true, not-true}
use Rattle.pj_tree.specs.declared.node.Node.{Node}
use Rattle.pj_tree.specs.Tree.{Tree, IsSyntaxTree, parent_of, is_parent, is_descendant}
use Rattle.pj_xexpressions.specs.declared.axis.Axis.{Axis}
use Rattle.pj_xexpressions.specs.declared.axis.Axis.TheVariants.{Child, Descendant, SelfNode, DescendantOrSelf, FollowingSibling, Following, Parent, Ancestor, PrecedingSibling, Preceding, AncestorOrSelf}
use Rattle.pj_xaxes.specs.Axes.{node, on_axis, same_parent, is_reverse, axis_nodes, turned}
use Rattle.pj_xaxes.specs.Search.{picked, axis_between}
use Rattle.pj_xaxes.specs.Search.{IsPastParent, IsPastSiblingBefore, IsPastSiblings, NoneFrom, IsWindow}
use Rattle.pj_xaxes.proofs.Ancestry.{parent-before, has_parent, ancestor-before, parent-from, child-below}
use Rattle.pj_xaxes.proofs.Picking.{skipped, cut, picked-is}
use Rattle.pj_xaxes.proofs.Siblings.{one_parent}

-- a parent that is this node
parent_is : (o : Option Node) (n : Node) → is_parent n o ≡ true → o ≡ Some n
parent_is None n is = absurd (false≢true is)
parent_is (Some p) n is = (let e : p.0 ≡ n.0 = eqb-true p.0 n.0 is in ap (λ (x : ℕ). Some (node x)) e)

off : {b : Bool} → (b ≡ true → ⊥) → b ≡ false
off {b} h = false_from_ne_true b h

nothing : (f : Node → Bool) (a : ℕ) → NoneFrom f a a
nothing f a = record { each = λ k from to. absurd (omega arith) }

module _ (t : Tree) (s : IsSyntaxTree t) (n : Node) (inside : n.0 < length t.nodes) (end : ℕ) (ended : end ≤ length t.nodes) (past_it : n.0 < end)
    (ends : (k : Node) → IsTrue (is_descendant t k n) ↔ ((n.0 < k.0) × (k.0 < end))) where
  after : (k : ℕ) → is_descendant t (node k) n ≡ true → n.0 < k
  after k is = ((ends (node k)).0 is).0

  inner : (k : ℕ) → is_descendant t (node k) n ≡ true → k < end
  inner k is = ((ends (node k)).0 is).1

  child_is_below : (k : ℕ) → k < length t.nodes → is_parent n (parent_of t (node k)) ≡ true → is_descendant t (node k) n ≡ true
  child_is_below k h is = child-below t s k n h (parent_is (parent_of t (node k)) n is)

  pub window_child : IsWindow t Child n (n.0 + 1) end
  window_child = record {
    within = ended;
    before = record { each = λ k from to. off (λ is. (let a = after k (child_is_below k (omega arith) is) in omega arith)) };
    behind = record { each = λ k from to. off (λ is. (let i = inner k (child_is_below k to is) in omega arith)) };
    from_least = omega arith;
    to_reach = λ is. absurd (false≢true is);
  }

  pub window_descendant : IsWindow t Descendant n (n.0 + 1) end
  window_descendant = record {
    within = ended;
    before = record { each = λ k from to. off (λ is. (let a = after k is in omega arith)) };
    behind = record { each = λ k from to. off (λ is. (let i = inner k is in omega arith)) };
    from_least = omega arith;
    to_reach = λ is. absurd (false≢true is);
  }

  pub window_self : IsWindow t SelfNode n n.0 (n.0 + 1)
  window_self = record {
    within = omega arith;
    before = record { each = λ k from to. off (λ is. (let e = eqb-true k n.0 is in omega arith)) };
    behind = record { each = λ k from to. off (λ is. (let e = eqb-true k n.0 is in omega arith)) };
    from_least = omega arith;
    to_reach = λ is. absurd (false≢true is);
  }

  -- what is the node or passes a test
  self_or : (k : ℕ) (b : Bool) (P : Type 0) → (nat_eq k n.0 || b) ≡ true → (k ≡ n.0 → P) → (b ≡ true → P) → P
  self_or k b P is same other = elim (or_cases (nat_eq k n.0) b is) [
    | inl e ↦ same (eqb-true k n.0 e)
    | inr d ↦ other d
  ]

  pub window_descendant_or_self : IsWindow t DescendantOrSelf n n.0 end
  window_descendant_or_self = record {
    within = ended;
    before = record { each = λ k from to. off (λ is. self_or k (is_descendant t (node k) n) ⊥ is (λ e. omega arith) (λ d. (let a = after k d in omega arith))) };
    behind = record { each = λ k from to. off (λ is. self_or k (is_descendant t (node k) n) ⊥ is (λ e. omega arith) (λ d. (let i = inner k d in omega arith))) };
    from_least = omega arith;
    to_reach = λ is. absurd (false≢true is);
  }

  -- a following sibling is no descendant
  not_inside : (k : ℕ) → k < length t.nodes → n.0 < k → same_parent (parent_of t (node k)) (parent_of t n) ≡ true → k < end → ⊥
  not_inside k h low same to =
      let p = one_parent (parent_of t (node k)) (parent_of t n) same in
      let b = parent-before t s n.0 p.parent inside p.second in
      let f = parent-from t s k n.0 p.parent h ((ends (node k)).1 (low, to)) p.first in
      omega arith

  siblings_to : (r k : ℕ) → IsPastSiblings t (parent_of t n) r → k < length t.nodes → same_parent (parent_of t (node k)) (parent_of t n) ≡ true → k < r
  siblings_to r k past h same =
      let p = one_parent (parent_of t (node k)) (parent_of t n) same in
      let all = subst (λ (o : Option Node). IsPastSiblings t o r) p.second past in
      ((all (node k)).0 (child-below t s k p.parent h p.first)).1

  pub window_following_sibling : (r : ℕ) → r ≤ length t.nodes → IsPastSiblings t (parent_of t n) r → IsWindow t FollowingSibling n end r
  window_following_sibling r within past = record {
    within = within;
    before = record {
      each = λ k from to. off (λ is. (let both = and_parts (nat_lt n.0 k) (same_parent (parent_of t (node k)) (parent_of t n)) is in
          not_inside k (omega arith) (ltb-true n.0 k both.0) both.1 to));
    };
    behind = record {
      each = λ k from to. off (λ is. (let both = and_parts (nat_lt n.0 k) (same_parent (parent_of t (node k)) (parent_of t n)) is in
          let l = siblings_to r k past to both.1 in omega arith));
    };
    from_least = omega arith;
    to_reach = λ is. absurd (false≢true is);
  }

  pub window_following : IsWindow t Following n end (length t.nodes)
  window_following = record {
    within = omega arith;
    before = record {
      each = λ k from to. off (λ is. (let both = and_parts (nat_lt n.0 k) (not (is_descendant t (node k) n)) is in
          false≢true (sym (not-true (is_descendant t (node k) n) both.1) ∙ (ends (node k)).1 (ltb-true n.0 k both.0, to))));
    };
    behind = nothing (on_axis t Following n) (length t.nodes);
    from_least = omega arith;
    to_reach = λ is. absurd (false≢true is);
  }

  past_at : (r : ℕ) (p : Node) → IsPastParent (parent_of t n) r → parent_of t n ≡ Some p → r ≡ p.0 + 1
  past_at r p past is = subst (λ (o : Option Node). MatchOption o (r ≡ 0) (λ q. r ≡ q.0 + 1)) is past

  pub window_parent : (r : ℕ) → r ≤ n.0 → IsPastParent (parent_of t n) r → IsWindow t Parent n (r - 1) r
  window_parent r low past = record {
    within = omega arith;
    before = record { each = λ k from to. off (λ is. (let e = past_at r (node k) past (parent_is (parent_of t n) (node k) is) in omega arith)) };
    behind = record { each = λ k from to. off (λ is. (let e = past_at r (node k) past (parent_is (parent_of t n) (node k) is) in omega arith)) };
    from_least = omega arith;
    to_reach = λ is. low;
  }

  pub window_ancestor : (r : ℕ) → r ≤ n.0 → IsPastParent (parent_of t n) r → IsWindow t Ancestor n 0 r
  window_ancestor r low past = record {
    within = omega arith;
    before = nothing (on_axis t Ancestor n) 0;
    behind = record {
      each = λ k from to. off (λ is. (let p = has_parent t s n.0 k inside is in
          let f = parent-from t s n.0 k p.parent inside is p.is in
          let e = past_at r p.parent past p.is in
          omega arith));
    };
    from_least = omega arith;
    to_reach = λ is. low;
  }

  pub window_preceding_sibling : (r l : ℕ) → r ≤ n.0 → IsPastParent (parent_of t n) r → IsPastSiblingBefore t n l → IsWindow t PrecedingSibling n r l
  window_preceding_sibling r l low past last = record {
    within = omega (arith, last.before);
    before = record {
      each = λ k from to. off (λ is. (let both = and_parts (nat_lt k n.0) (same_parent (parent_of t (node k)) (parent_of t n)) is in
          let p = one_parent (parent_of t (node k)) (parent_of t n) both.1 in
          let e = past_at r p.parent past p.second in
          let b = parent-before t s k p.parent (omega arith) p.first in
          omega arith));
    };
    behind = record {
      each = λ k from to. off (λ is. (let both = and_parts (nat_lt k n.0) (same_parent (parent_of t (node k)) (parent_of t n)) is in
          false≢true (sym (last.none.each k from (ltb-true k n.0 both.0)) ∙ both.1)));
    };
    from_least = omega arith;
    to_reach = λ is. last.before;
  }

  pub window_preceding : IsWindow t Preceding n 0 n.0
  window_preceding = record {
    within = omega arith;
    before = nothing (on_axis t Preceding n) 0;
    behind = record {
      each = λ k from to. off (λ is. (let both = and_parts (nat_lt k n.0) (not (is_descendant t n (node k))) is in
          let l = ltb-true k n.0 both.0 in omega arith));
    };
    from_least = omega arith;
    to_reach = λ is. omega arith;
  }

  pub window_ancestor_or_self : IsWindow t AncestorOrSelf n 0 (n.0 + 1)
  window_ancestor_or_self = record {
    within = omega arith;
    before = nothing (on_axis t AncestorOrSelf n) 0;
    behind = record { each = λ k from to. off (λ is. self_or k (is_descendant t n (node k)) ⊥ is (λ e. omega arith) (λ d. (let b = ancestor-before t s n.0 k inside d in omega arith))) };
    from_least = omega arith;
    to_reach = λ is. omega arith;
  }

-- the nodes of the window are all on the axis
pub window-whole : (t : Tree) (axis : Axis) (n : Node) (low high : ℕ) → IsWindow t axis n low high → axis_between t axis n low high ≡ axis_nodes t axis n
window-whole t axis n low high w =
    let all : length t.nodes - 0 ≡ length t.nodes = omega arith in
    let cut_down = skipped (on_axis t axis n) 0 low (length t.nodes) (omega arith) w.before ∙ cut (on_axis t axis n) low high (length t.nodes) w.within w.behind in
    ap (turned (is_reverse axis)) (sym cut_down ∙ ap (picked (on_axis t axis n) 0) all ∙ picked-is (on_axis t axis n) 0 (length t.nodes))
