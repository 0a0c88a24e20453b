use Rattle.std.proofs.Common.{sym, subst, ◌<◌, length, List}
use Rattle.std.specs.List.{All}
use Rattle.pj_tree.specs.declared.node.Node.{Node}
use Rattle.pj_xaxes.proofs.Inside.{axis-inside}
use Rattle.pj_xaxes.proofs.Windows.{window-whole}
use Rattle.pj_xaxes.proofs.nodes.axis.Goals as goal

pub returns-clause-nodes : goal.returns-clause-nodes
returns-clause-nodes c = window-whole c.args.tree.now c.args.a c.args.n c.window-low.result.0 c.window-low.result.1 c.window-low.ensures

pub returns-clause-inside : goal.returns-clause-inside
returns-clause-inside c =
    subst (λ (ms : List Node). All (λ m. m.0 < length c.args.tree.now.nodes) ms) (sym (window-whole c.args.tree.now c.args.a c.args.n c.window-low.result.0 c.window-low.result.1 c.window-low.ensures)) (axis-inside c.args.tree.now c.args.a c.args.n)
