use Rattle.std.proofs.Common.{◌∙◌, ap, sym, map}
use Rattle.pj_xexpressions.specs.Trees.{node, tree_of}
use Rattle.pj_xreadings.specs.Constructs.{construct_of}
use Rattle.pj_xreadings.proofs.TreeForms.{tree_of_comma, tree_of_or, tree_of_and, tree_of_concatenation, tree_of_union, tree_of_simple_map}
use Rattle.pj_xreadings.proofs.operation.chained.Goals as goal

pub returns-in-Comma : goal.returns-in-Comma
returns-in-Comma c = tree_of_comma c.args.operands ∙ ap (λ o. node (construct_of o) (map tree_of c.args.operands.items)) (sym c.in-Comma.is)

pub returns-in-Or : goal.returns-in-Or
returns-in-Or c = tree_of_or c.args.operands ∙ ap (λ o. node (construct_of o) (map tree_of c.args.operands.items)) (sym c.in-Or.is)

pub returns-in-And : goal.returns-in-And
returns-in-And c = tree_of_and c.args.operands ∙ ap (λ o. node (construct_of o) (map tree_of c.args.operands.items)) (sym c.in-And.is)

pub returns-in-Concatenation : goal.returns-in-Concatenation
returns-in-Concatenation c = tree_of_concatenation c.args.operands ∙ ap (λ o. node (construct_of o) (map tree_of c.args.operands.items)) (sym c.in-Concatenation.is)

pub returns-in-Union : goal.returns-in-Union
returns-in-Union c = tree_of_union c.args.operands ∙ ap (λ o. node (construct_of o) (map tree_of c.args.operands.items)) (sym c.in-Union.is)

pub returns-in-SimpleMap : goal.returns-in-SimpleMap
returns-in-SimpleMap c = tree_of_simple_map c.args.operands ∙ ap (λ o. node (construct_of o) (map tree_of c.args.operands.items)) (sym c.in-SimpleMap.is)
