use Rattle.std.proofs.Common.{length, arith, sym, ap}
use Rattle.pj_tree.specs.Tree.{Tree}
use Rattle.pj_tree.specs.declared.row.Row.{Row}
use Rattle.pj_tree.proofs.syntax_tree.SyntaxTree.subtree_end.Goals as goal
use Rattle.pj_tree.proofs.Seen.{length-nodes_seen}
use Rattle.pj_tree.proofs.ReadRows.{IsRead, reads}
use Rattle.pj_tree.proofs.Ends.{has_number-above}

pub index-requires : goal.index-requires
index-requires c = omega (arith, c.requires.inside, ap (λ (t : Tree). length t.nodes) (sym c.self.view_is), length-nodes_seen c.self.inside.rows.items c.self.inside.tokens.items)

pub returns-clause-past : goal.returns-clause-past
returns-clause-past c =
    let r : IsRead c.self.inside.text.now c.self.inside.rows.items c.self.inside.tokens.items c.args.self.now c.args.n.0 c.index.result.now
    = reads c.self.inside.text.now c.self.inside.rows.items c.self.inside.tokens.items c.args.self.now c.args.n.0 c.index.result.now c.self.view_is c.requires.inside c.index.ensures in
    omega (arith, c.self.invariant.ends.past c.args.n.0 r.in_rows, ap (λ (s : Row). s.end) r.is)

pub returns-clause-within : goal.returns-clause-within
returns-clause-within c =
    let r : IsRead c.self.inside.text.now c.self.inside.rows.items c.self.inside.tokens.items c.args.self.now c.args.n.0 c.index.result.now
    = reads c.self.inside.text.now c.self.inside.rows.items c.self.inside.tokens.items c.args.self.now c.args.n.0 c.index.result.now c.self.view_is c.requires.inside c.index.ensures in
    omega (arith, c.self.invariant.ended c.args.n.0 r.in_rows, ap (λ (s : Row). s.end) r.is, r.len)

pub returns-clause-descendants : goal.returns-clause-descendants
returns-clause-descendants c =
    let r : IsRead c.self.inside.text.now c.self.inside.rows.items c.self.inside.tokens.items c.args.self.now c.args.n.0 c.index.result.now
    = reads c.self.inside.text.now c.self.inside.rows.items c.self.inside.tokens.items c.args.self.now c.args.n.0 c.index.result.now c.self.view_is c.requires.inside c.index.ensures in
    λ m. rw (r.all_parents, ap (λ (s : Row). s.end) r.is) (has_number-above c.self.inside.rows.items c.args.n.0 m.0 c.self.invariant.ends (c.self.invariant.ended c.args.n.0 r.in_rows))
