use Rattle.std.proofs.Common.{List, Result, Ok}
use Rattle.pj_xvalue.specs.declared.fault.XCode.{XCode}
use Rattle.pj_xvalue.specs.Items.{ItemValue, values_of}
use Rattle.pj_xvalue.specs.Arguments.{and_then}
use Rattle.pj_xsteps.specs.Denotes.{denotes, behind, with_set}
use Rattle.pj_xsteps.specs.Means.{◌>>=◌, chain, judged}
use Rattle.pj_xsteps.specs.Operands.{only_nodes}
use Rattle.pj_xsteps.specs.Parts.{operated_by}
use Rattle.pj_xsteps.specs.Sets.{chosen}
use Rattle.pj_xframes.specs.Scopes.{variables_of}
use Rattle.pj_xframes.proofs.ListGoals.{goes-made, made-as}
use Rattle.pj_xframes.proofs.lists.sets_after.Goals as goal

pub returns-clause-goes : goal.returns-clause-goes
returns-clause-goes c = λ a reply at s.
    goes-made a reply at s at s (Ok c.sets.result)
    (λ (made : Result (List ItemValue) XCode). judged made >>= λ found. chain (behind at (variables_of s)) with_set (operated_by (denotes a reply) c.args.parts.now) found)
    (and_then (only_nodes (values_of c.args.value)) (λ others. Ok (chosen c.args.operator (values_of c.args.found) others))) (values_of c.in_ok-found.found)
    (made-as (only_nodes (values_of c.args.value)) (values_of c.in_ok-others.others) (λ others. chosen c.args.operator (values_of c.args.found) others) (values_of c.in_ok-found.found) c.in_ok-others.ensures.value c.in_ok-found.ensures.value)
    (c.sets.ensures.goes a reply at s)

pub returns-clause-of_tree : goal.returns-clause-of_tree
returns-clause-of_tree c = λ n found value. c.sets.ensures.of_tree n (c.in_ok-found.ensures.of_tree n found)
