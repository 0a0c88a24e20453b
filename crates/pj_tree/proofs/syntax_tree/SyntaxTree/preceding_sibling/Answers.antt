use Rattle.std.proofs.Common.{◌≡◌, length, arith, sym, ap}
use Rattle.pj_tree.specs.Tree.{Tree}
use Rattle.pj_tree.specs.Rows.{row_at}
use Rattle.pj_tree.specs.declared.row.Row.{Row}
use Rattle.pj_tree.proofs.syntax_tree.SyntaxTree.preceding_sibling.Goals as goal
use Rattle.pj_tree.proofs.Seen.{length-nodes_seen}
use Rattle.pj_tree.proofs.ReadRows.{IsRead, reads}
use Rattle.pj_tree.proofs.Siblings.{sibling_is, first_child}

pub index-requires : goal.index-requires
index-requires c = omega (arith, c.requires.inside, ap (λ (t : Tree). length t.nodes) (sym c.self.view_is), length-nodes_seen c.self.inside.rows.items c.self.inside.tokens.items)

pub returns-then-sibling-n : goal.returns-then-sibling-n
returns-then-sibling-n c =
    let r : IsRead c.self.inside.text.now c.self.inside.rows.items c.self.inside.tokens.items c.args.self.now c.args.n.0 c.index.result.now
    = reads c.self.inside.text.now c.self.inside.rows.items c.self.inside.tokens.items c.args.self.now c.args.n.0 c.index.result.now c.self.view_is c.requires.inside c.index.ensures in
    let link : c.index.result.now.sibling_before ≡ (row_at c.self.inside.rows.items c.args.n.0).sibling_before = ap (λ (s : Row). s.sibling_before) r.is in
    record {
      value = rw (r.all_parents, link) (sibling_is c.self.inside.rows.items c.args.n (record { 0 = (row_at c.self.inside.rows.items c.args.n.0).sibling_before }) r.in_rows
          (c.self.invariant.siblings c.args.n.0 r.in_rows) (omega (arith, link, c.if-sibling-n.true)));
    }

pub returns-else-sibling-n : goal.returns-else-sibling-n
returns-else-sibling-n c =
    let r : IsRead c.self.inside.text.now c.self.inside.rows.items c.self.inside.tokens.items c.args.self.now c.args.n.0 c.index.result.now
    = reads c.self.inside.text.now c.self.inside.rows.items c.self.inside.tokens.items c.args.self.now c.args.n.0 c.index.result.now c.self.view_is c.requires.inside c.index.ensures in
    let link : c.index.result.now.sibling_before ≡ (row_at c.self.inside.rows.items c.args.n.0).sibling_before = ap (λ (s : Row). s.sibling_before) r.is in
    record {
      value = rw r.all_parents (first_child c.self.inside.rows.items c.args.n (row_at c.self.inside.rows.items c.args.n.0).sibling_before r.in_rows
          (c.self.invariant.siblings c.args.n.0 r.in_rows) (omega (arith, link, c.if-sibling-n.false)));
    }
