use Rattle.std.proofs.Common.{◌∙◌, ◌++◌, List, Result, Ok, ap, map, subst, sym}
use Rattle.std.proofs.lemmas.List.{map-append}
use Rattle.pj_xvalue.specs.declared.fault.XCode.{XCode}
use Rattle.pj_xvalue.specs.declared.item.Item.{Item}
use Rattle.pj_xvalue.specs.Items.{ItemValue, value_of_item, values_of}
use Rattle.pj_xvalue.specs.OfTree.{OfTree}
use Rattle.pj_xaxes.specs.Order.{ordered}
use Rattle.pj_xvalue.specs.Arguments.{and_then}
use Rattle.pj_xsteps.specs.Denotes.{denotes, here, with_nodes}
use Rattle.pj_xsteps.specs.Means.{◌>>=◌, chain, give, judged}
use Rattle.pj_xsteps.specs.Operands.{only_nodes}
use Rattle.pj_xframes.specs.Scopes.{variables_of}
use Rattle.pj_xframes.proofs.ListGoals.{goes-made, made-as}
use Rattle.pj_xframes.proofs.OfTree.{of_tree-behind}
use Rattle.pj_xframes.proofs.lists.nodes_after.Goals as goal

pub returns-clause-goes : goal.returns-clause-goes
returns-clause-goes c = λ a reply at s.
    goes-made a reply at s at s (Ok c.nodes.result)
    (λ (made : Result (List ItemValue) XCode). (judged made >>= λ more. chain (here at (variables_of s)) with_nodes (map (denotes a reply) c.args.parts.now) more) >>= λ all. give (ordered all))
    (and_then (only_nodes (values_of c.args.value)) (λ more. Ok (values_of c.args.found ++ more))) (values_of c.in_ok-found.found)
    (made-as (only_nodes (values_of c.args.value)) (values_of c.in_ok-more.more) (λ more. values_of c.args.found ++ more) (values_of c.in_ok-found.found) c.in_ok-more.ensures.value
    (ap values_of c.in_ok-found.ensures ∙ map-append value_of_item c.args.found c.in_ok-more.more))
    (c.nodes.ensures.goes a reply at s)

pub returns-clause-of_tree : goal.returns-clause-of_tree
returns-clause-of_tree c = λ n found value.
    c.nodes.ensures.of_tree n (of_tree-behind n c.in_ok-found.found c.args.found c.in_ok-more.more c.in_ok-found.ensures found (subst (λ (items : List Item). OfTree n (values_of items)) (sym c.in_ok-more.ensures.same) value))
