use Rattle.std.proofs.Common.{List, subst, sym}
use Rattle.pj_xvalue.specs.Items.{ItemValue}
use Rattle.pj_xvalue.specs.OfTree.{OfTree}
use Rattle.pj_xframes.proofs.ListGoals.{range-of_tree}
use Rattle.pj_xframes.proofs.numbers.range_to.Goals as goal

pub returns-clause-of_tree : goal.returns-clause-of_tree
returns-clause-of_tree g c = λ n. subst (λ (items : List ItemValue). OfTree n items) (sym c.in_ok-range.ensures) (range-of_tree n c.args.from c.in_ok-to.to)
