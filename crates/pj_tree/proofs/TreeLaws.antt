-- What every syntax tree is, by its rows.
use Rattle.std.proofs.Common.{ℕ, suc, ◌≡◌, ◌+◌, ◌<◌, ◌≤◌, Bool, true, IsTrue, List, [], ◌∷◌, length, get_or, refl, ap, ◌∙◌, arith, inl, inr, nat_eq, Option, None, Some}
use Rattle.std.specs.List.{All}
use Rattle.std.specs.Option.{MatchOption, IsSomeAnd}
use Rattle.std.proofs.lemmas.Bool.{cases_Bool, cases_eq, eq-eqb, or_left, or_right}
use Rattle.std.proofs.lemmas.List.Elements.{All-nil, All-cons, All-from_get_or}
use Rattle.pj_tree.specs.Tree.{TreeNode, IsSyntaxTree, IsSpanOf, parent_of, ancestors, ancestors_by, is_node_or_ancestor}
use Rattle.pj_tree.specs.Rows.{IsTree, row_parents, row_at, above, above_at, end_at, own_spans, belongs, node_seen, nodes_seen, no_row, no_token}
use Rattle.pj_tree.specs.declared.node.Node.{Node}
use Rattle.pj_tree.specs.declared.node.Span.{Span}
use Rattle.pj_tree.specs.declared.row.Row.{Row}
use Rattle.pj_tree.specs.declared.row.OwnToken.{OwnToken}
use Rattle.pj_tree.proofs.Ends.{above_row-at, has_number-above, has_number, above_row}
use Rattle.pj_tree.proofs.ReadRows.{tree_seen}
use Rattle.pj_tree.proofs.Seen.{length-nodes_seen, get_or-nodes_seen, parents-nodes_seen, get_or-row_parents}

-- the own tokens of each node are among all tokens
own_spans-all : (P : Span → Type 0) (tokens : List OwnToken) (n : ℕ) → ((k : ℕ) → k < length tokens → P (get_or tokens k no_token).span) → All P (own_spans tokens n)
own_spans-all P [] n all = All-nil P
own_spans-all P (t ∷ ts) n all = elim (cases_Bool (belongs n t)) [
  | inl e ↦ rw e (All-cons P t.span (own_spans ts n) (all 0 (omega arith)) (own_spans-all P ts n (λ k h. all (suc k) (omega arith))))
  | inr e ↦ rw e (own_spans-all P ts n (λ k h. all (suc k) (omega arith)))
]

-- a parent that is there is below
parent_below : (o : Option Node) (n : ℕ) → 0 < above o → above o ≤ n → IsSomeAnd o (λ p. p.0 < n)
parent_below None n some low = absurd (omega arith)
parent_below (Some p) n some low = omega arith

-- a parent that satisfies a test
parent_passes : (o : Option Node) (test : Node → Bool) → 0 < above o → ((p : Node) → above o ≡ p.0 + 1 → test p ≡ true) → IsSomeAnd o (λ p. IsTrue (test p))
parent_passes None test some is = absurd (omega arith)
parent_passes (Some p) test some is = is p refl

ancestry_by : (all : List (List Node)) (o : Option Node) (mine : List Node) → mine ≡ ancestors_by all o → MatchOption o (mine ≡ []) (λ p. mine ≡ p ∷ get_or all p.0 [])
ancestry_by all None mine e = e
ancestry_by all (Some p) mine e = e

pub syntax_tree_is : (text : List ℕ) (rows : List Row) (tokens : List OwnToken) → IsTree text rows tokens → IsSyntaxTree (tree_seen text rows tokens)
syntax_tree_is text rows tokens s = record {
  some = omega (arith, len, s.rooted);
  few = omega (arith, len, s.few);
  shallow = rw (parents-nodes_seen rows tokens) s.shallow;
  root = parent_is 0 s.rooted ∙ no_parent (row_at rows 0).parent (s.ends.above_below 0 s.rooted);
  below = λ n some h. let in_rows : n.0 < length rows = omega (arith, len) in
      rw (parent_is n.0 in_rows) (parent_below (row_at rows n.0).parent n.0 (s.one_root n.0 some in_rows) (s.ends.above_below n.0 in_rows));
  preorder = λ n h. let in_rows : n.0 + 1 < length rows = omega (arith, len) in
      rw (parent_is (n.0 + 1) in_rows) (parent_passes (row_at rows (n.0 + 1)).parent (λ p. is_node_or_ancestor (tree_seen text rows tokens) p n) (s.one_root (n.0 + 1) (omega arith) in_rows) (λ p e. before n p in_rows e));
  ancestry = λ n h. let in_rows : n.0 < length rows = omega (arith, len) in
      rw (parents-nodes_seen rows tokens, get_or-row_parents rows n.0 in_rows) (ancestry_by (ancestors (row_parents rows)) (row_at rows n.0).parent (above_row rows n.0) (above_row-at rows n.0 s.ends in_rows));
  spans = All-from_get_or (λ (x : TreeNode). IsSpanOf text x.span) (nodes_seen rows tokens) (node_seen tokens (0, no_row))
      (λ k h. let in_rows : k < length rows = omega (arith, len) in rw (get_or-nodes_seen rows tokens k (node_seen tokens (0, no_row)) in_rows) (s.spans k in_rows));
  tokens = All-from_get_or (λ (x : TreeNode). All (IsSpanOf text) x.own) (nodes_seen rows tokens) (node_seen tokens (0, no_row))
      (λ k h. let in_rows : k < length rows = omega (arith, len) in rw (get_or-nodes_seen rows tokens k (node_seen tokens (0, no_row)) in_rows) (own_spans-all (IsSpanOf text) tokens k s.token_spans));
}
  where
    len : length (nodes_seen rows tokens) ≡ length rows
    len = length-nodes_seen rows tokens

    parent_is : (k : ℕ) → k < length rows → parent_of (tree_seen text rows tokens) (record { 0 = k }) ≡ (row_at rows k).parent
    parent_is k h = ap (λ (ps : List (Option Node)). get_or ps k None) (parents-nodes_seen rows tokens) ∙ get_or-row_parents rows k h

    no_parent : (o : Option Node) → above o ≤ 0 → o ≡ None
    no_parent None low = refl
    no_parent (Some p) low = absurd (omega arith)

    before : (n p : Node) → n.0 + 1 < length rows → above_at rows (n.0 + 1) ≡ p.0 + 1 → is_node_or_ancestor (tree_seen text rows tokens) p n ≡ true
    before n p in_rows e =
        let low : p.0 ≤ n.0 = omega (arith, s.ends.above_below (n.0 + 1) in_rows) in
        let reach : n.0 + 1 < end_at rows p.0 = s.ends.before_end (n.0 + 1) p.0 in_rows e in
        rw (parents-nodes_seen rows tokens) (elim (cases_eq n.0 p.0) [
          | inl same ↦ or_left (nat_eq n.0 p.0) (has_number p.0 (above_row rows n.0)) (eq-eqb n.0 p.0 same)
          | inr other ↦ or_right (nat_eq n.0 p.0) (has_number p.0 (above_row rows n.0))
              ((has_number-above rows p.0 n.0 s.ends (s.ended p.0 (omega arith))).1 (omega (arith, other), omega arith))
        ])
