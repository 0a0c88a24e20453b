use Rattle.std.proofs.Common.{List, length, subst, sym}
use Rattle.pj_names.specs.Told.{Asks}
use Rattle.pj_xsteps.specs.Context.{Variables, at, given_of}
use Rattle.pj_xsteps.specs.Means.{Means}
use Rattle.pj_xvalue.specs.Items.{ItemValue, value_of_item, values_of}
use Rattle.pj_xvalue.specs.OfTree.{VariablesOfTree}
use Rattle.pj_xvalue.specs.Replies.{outcome}
use Rattle.pj_workers.proofs.Evaluating.{value_known}
use Rattle.pj_workers.proofs.Variables.{variables_of_tree}
use Rattle.pj_workers.proofs.analysis.value_of.Goals as goal

pub evaluate-requires-clause-variables : goal.evaluate-requires-clause-variables
evaluate-requires-clause-variables g c =
    let n = length c.args.view.now.file.now.tree.now.nodes in
    subst (λ (variables : Variables). VariablesOfTree n variables) (sym c.variables.ensures) (variables_of_tree n c.args.view.now.rule.now.properties)

pub returns-clause-asks : goal.returns-clause-asks
returns-clause-asks g c =
    subst (λ (m : Means (List ItemValue)). Asks m (g.C.Calls.tells c.args.calls.now) (g.C.Calls.tells c.evaluate.new.calls) (outcome values_of c.evaluate.result))
    (value_known c.patterns_are_a_set.ensures (g.C.Calls.reply c.args.calls.now) c.args.view.now c.args.spelled.now c.args.view.now.file.now.tree.now (at (value_of_item c.args.item) 1 1)
    (given_of c.variables.result.now) c.requires.file.tree_is c.variables.ensures c.requires.patterns)
    c.evaluate.ensures.asks
