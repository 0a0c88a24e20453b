use Rattle.std.proofs.Common.{refl}
use Rattle.pj_tree.specs.declared.kind.Kind.TheVariants as k
use Rattle.pj_node_functions.specs.Kinds.{other_expressions}
use Rattle.pj_node_functions.specs.Laws.{ExpressionsAreOneGroup}
use Rattle.pj_node_functions.proofs.laws.expressions_are_one_group.Goals as goal

one_group : ExpressionsAreOneGroup
unfolding other_expressions
one_group k.NumericLiteral = refl
one_group kind = refl

pub returns : goal.returns
returns c = one_group
