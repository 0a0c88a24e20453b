use Rattle.std.proofs.Common.{length, arith, sym, ap}
use Rattle.std.specs.Option.{option_map}
use Rattle.pj_tree.specs.Tree.{Tree, TreeNode}
use Rattle.pj_tree.proofs.syntax_tree.SyntaxTree.kind.Goals as goal
use Rattle.pj_tree.proofs.Seen.{length-nodes_seen}
use Rattle.pj_tree.proofs.ReadRows.{IsRead, reads}

pub index-requires : goal.index-requires
index-requires c = omega (arith, c.requires.inside, ap (λ (t : Tree). length t.nodes) (sym c.self.view_is), length-nodes_seen c.self.inside.rows.items c.self.inside.tokens.items)

pub returns : goal.returns
returns c =
    let r : IsRead c.self.inside.text.now c.self.inside.rows.items c.self.inside.tokens.items c.args.self.now c.args.n.0 c.index.result.now
    = reads c.self.inside.text.now c.self.inside.rows.items c.self.inside.tokens.items c.args.self.now c.args.n.0 c.index.result.now c.self.view_is c.requires.inside c.index.ensures in
    record { value = ap (option_map (λ (x : TreeNode). x.kind)) r.node }
