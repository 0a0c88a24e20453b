use Rattle.std.proofs.Common.{arith}
use Rattle.pj_xvalue.proofs.OfTreeLaws.{of_tree-at}
use Rattle.pj_xsteps.specs.Context.{Around}
use Rattle.pj_node_functions.specs.Arguments.{around_argument}
use Rattle.pj_node_functions.proofs.Turns.{valued-turn}
use Rattle.pj_node_functions.proofs.arguments.with_values.Goals as goal

pub push_valued-requires : goal.push_valued-requires
push_valued-requires g c = of_tree-at (g.A.Attributes.nodes c.args.facts.now) c.args.items.now c.loop-item.item-index c.item-item.result (omega arith) c.item-item.is c.requires

pub loop-item-preserved : goal.loop-item-preserved
loop-item-preserved g c =
    let a : Around = around_argument (g.A.Attributes.attribute_of c.args.facts.now) (g.A.Attributes.names_of c.args.facts.now) in
    valued-turn a c.args.items.now c.loop-item.item-index c.item-item.result c.loop-item.values c.push_valued.new.values (omega arith) c.item-item.is c.in_ok-push_valued.ensures c.loop-item.invariant
