-- The sibling before a node.
use Rattle.std.proofs.Common.{ℕ, ◌≡◌, ◌<◌, ◌≤◌, List, refl, ap, sym, ◌∙◌, arith, Option, None, Some, length}
use Rattle.pj_tree.specs.Tree.{IsSiblingBefore, NoSiblingBetween, parent_in}
use Rattle.pj_tree.specs.Rows.{IsLastBelow, row_parents, row_at, above, above_at}
use Rattle.pj_tree.specs.declared.row.Row.{Row}
use Rattle.pj_tree.specs.declared.node.Node.{Node}
use Rattle.pj_tree.proofs.Seen.{get_or-row_parents}

one_parent : (o p : Option Node) → above o ≡ above p → o ≡ p
one_parent None None e = refl
one_parent None (Some q) e = absurd (omega arith)
one_parent (Some p) None e = absurd (omega arith)
one_parent (Some p) (Some q) e = (let at : p.0 ≡ q.0 = omega arith in ap (λ (x : ℕ). Some (record { 0 = x })) at)

same_above : (rows : List Row) (k n : Node) → k.0 < length rows → n.0 < length rows → parent_in (row_parents rows) k ≡ parent_in (row_parents rows) n → above_at rows k.0 ≡ above_at rows n.0
same_above rows k n in_rows h e = ap above (sym (get_or-row_parents rows k.0 in_rows) ∙ (e ∙ get_or-row_parents rows n.0 h))

-- the last row before it that has its parent
pub sibling_is : (rows : List Row) (n m : Node) → n.0 < length rows → IsLastBelow rows (above_at rows n.0) n.0 m.0 → m.0 < n.0 → IsSiblingBefore (row_parents rows) n m
sibling_is rows n m h s before = record {
  before = before;
  same_parent = get_or-row_parents rows m.0 (omega arith) ∙ (one_parent (row_at rows m.0).parent (row_at rows n.0).parent (s.is before) ∙ sym (get_or-row_parents rows n.0 h));
  none_between = λ k from to e. s.none k.0 to (λ b. omega arith) (same_above rows k n (omega arith) h e);
}

-- and where there is none
pub first_child : (rows : List Row) (n : Node) (j : ℕ) → n.0 < length rows → IsLastBelow rows (above_at rows n.0) n.0 j → n.0 ≤ j → NoSiblingBetween (row_parents rows) 0 n
first_child rows n j h s none k from to e = s.none k.0 to (λ b. absurd (omega arith)) (same_above rows k n (omega arith) h e)
