-- Nodes with one parent.
use Rattle.std.proofs.Common.{◌≡◌, ℕ, ◌+◌, ◌-◌, true, Option, None, Some, refl, sym, ◌∙◌, ap, arith}
use Rattle.std.proofs.lemmas.Bool.{false≢true, eqb-true, false_from_ne_true}
use Rattle.pj_tree.specs.declared.node.Node.{Node}
use Rattle.pj_tree.specs.Tree.{Tree, parents, parent_of, NoSiblingBetween, IsSiblingBefore}
use Rattle.pj_xaxes.specs.Axes.{node, same_parent}
use Rattle.pj_xaxes.specs.Search.{NoneFrom, IsPastSiblingBefore}

pub record OneParent (o p : Option Node) : Type 0 where
  pub parent : Node
  pub first : o ≡ Some parent
  pub second : p ≡ Some parent

pub one_parent : (o p : Option Node) → same_parent o p ≡ true → OneParent o p
one_parent None None is = absurd (false≢true is)
one_parent None (Some q) is = absurd (false≢true is)
one_parent (Some q) None is = absurd (false≢true is)
one_parent (Some p) (Some q) is = record { parent = p; first = refl; second = (let e : q.0 ≡ p.0 = sym (eqb-true p.0 q.0 is) in ap (λ (x : ℕ). Some (node x)) e) }

none_from : (t : Tree) (n : Node) (from : ℕ) → NoSiblingBetween (parents t.nodes) from n → NoneFrom (λ k. same_parent (parent_of t k) (parent_of t n)) from n.0
none_from t n from none = record {
  each = λ k a b. false_from_ne_true (same_parent (parent_of t (node k)) (parent_of t n)) (λ is.
      let p = one_parent (parent_of t (node k)) (parent_of t n) is in none (node k) a b (p.first ∙ sym p.second));
}

pub past_sibling : (t : Tree) (n m : Node) → IsSiblingBefore (parents t.nodes) n m → IsPastSiblingBefore t n (m.0 + 1)
past_sibling t n m s = record {
  before = omega (arith, s.before);
  sibling = λ some. (let at : m.0 + 1 - 1 ≡ m.0 = omega arith in rw at s.same_parent);
  none = none_from t n (m.0 + 1) s.none_between;
}

pub past_none : (t : Tree) (n : Node) → NoSiblingBetween (parents t.nodes) 0 n → IsPastSiblingBefore t n 0
past_none t n none = record {
  before = omega arith;
  sibling = λ some. absurd (omega arith);
  none = none_from t n 0 none;
}
