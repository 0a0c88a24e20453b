use Rattle.std.proofs.Common.{sym, subst, length, List, rules}
use Rattle.pj_xvalue.specs.Items.{ItemValue, value_of_item}
use Rattle.pj_xvalue.specs.OfTree.{OfTree}
use Rattle.pj_xsteps.proofs.OfTree.{stepped-of_tree}
use Rattle.pj_xsteps.proofs.axis_step.stepped.Goals as goal

pub returns-clause-of_tree : goal.returns-clause-of_tree
returns-clause-of_tree c =
    subst (λ (xs : List ItemValue). OfTree (length c.args.tree.now.nodes) xs) (sym c.in_ok-found.ensures) (stepped-of_tree c.args.tree.now c.args.along c.args.test.now (value_of_item c.args.item.now) (search rules) c.requires)
