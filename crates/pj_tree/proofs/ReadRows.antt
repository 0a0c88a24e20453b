-- What a row that was read says of its node.
use Rattle.std.proofs.Common.{ℕ, ◌≡◌, ◌<◌, List, length, get_or, ap, sym, ◌∙◌, arith, Option, Some, None}
use Rattle.std.specs.List.{slice_get}
use Rattle.std.proofs.lemmas.List.{get_or_read}
use Rattle.pj_tree.specs.Tree.{Tree, parents, parent_in}
use Rattle.pj_tree.specs.Rows.{nodes_seen, node_seen, row_parents, row_at, no_row}
use Rattle.pj_tree.specs.declared.row.Row.{Row}
use Rattle.pj_tree.specs.declared.row.OwnToken.{OwnToken}
use Rattle.pj_tree.specs.declared.node.Node.{Node}
use Rattle.pj_tree.proofs.Seen.{length-nodes_seen, slice_get-nodes_seen, parents-nodes_seen, get_or-row_parents}

abbrev pub tree_seen : List ℕ → List Row → List OwnToken → Tree
tree_seen text rows tokens = record { text = text; nodes = nodes_seen rows tokens }

pub record IsRead (text : List ℕ) (rows : List Row) (tokens : List OwnToken) (t : Tree) (n : ℕ) (r : Row) : Type 0 where
  pub in_rows : n < length rows
  pub is : r ≡ row_at rows n
  pub text_is : t.text ≡ text
  pub node : slice_get t.nodes n ≡ Some (node_seen tokens (n, r))
  pub all_parents : parents t.nodes ≡ row_parents rows
  pub parent : r.parent ≡ parent_in (parents t.nodes) (record { 0 = n })
  pub len : length t.nodes ≡ length rows

pub reads : (text : List ℕ) (rows : List Row) (tokens : List OwnToken) (t : Tree) (n : ℕ) (r : Row) → tree_seen text rows tokens ≡ t → n < length t.nodes → r ≡ get_or rows n r → IsRead text rows tokens t n r
reads text rows tokens t n r seen h at = record {
  in_rows = in_rows;
  is = is;
  text_is = ap (λ (u : Tree). u.text) (sym seen);
  node = ap (λ (u : Tree). slice_get u.nodes n) (sym seen) ∙ (slice_get-nodes_seen rows tokens n in_rows ∙ ap (λ (s : Row). Some (node_seen tokens (n, s))) (sym is));
  all_parents = all;
  parent = ap (λ (s : Row). s.parent) is ∙ (sym (get_or-row_parents rows n in_rows) ∙ ap (λ (ps : List (Option Node)). get_or ps n None) (sym all));
  len = len;
}
  where
    len : length t.nodes ≡ length rows
    len = ap (λ (u : Tree). length u.nodes) (sym seen) ∙ length-nodes_seen rows tokens

    in_rows : n < length rows
    in_rows = omega (arith, len, h)

    is : r ≡ row_at rows n
    is = get_or_read rows n r in_rows at no_row

    all : parents t.nodes ≡ row_parents rows
    all = ap (λ (u : Tree). parents u.nodes) (sym seen) ∙ parents-nodes_seen rows tokens
