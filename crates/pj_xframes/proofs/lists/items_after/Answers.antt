use Rattle.std.proofs.Common.{◌∙◌, List, map, ap, subst}
use Rattle.std.proofs.lemmas.List.{map-append}
use Rattle.pj_xvalue.specs.Items.{ItemValue, value_of_item, values_of}
use Rattle.pj_xsteps.specs.Denotes.{denotes, here}
use Rattle.pj_xsteps.specs.Means.{chain}
use Rattle.pj_xsteps.specs.Turns.{with_all}
use Rattle.pj_xframes.specs.Going.{Goes}
use Rattle.pj_xframes.specs.Scopes.{variables_of}
use Rattle.pj_xframes.proofs.OfTree.{of_tree-behind}
use Rattle.pj_xframes.proofs.lists.items_after.Goals as goal

pub returns-clause-goes : goal.returns-clause-goes
returns-clause-goes c = λ a reply at s.
    subst (λ (found : List ItemValue). Goes a reply (chain (here at (variables_of s)) with_all (map (denotes a reply) c.args.parts.now) found) at s at s c.items.result)
    (ap values_of c.in_ok-append.ensures.ok ∙ map-append value_of_item c.args.found c.args.value)
    (c.items.ensures.goes a reply at s)

pub returns-clause-of_tree : goal.returns-clause-of_tree
returns-clause-of_tree c = λ n found value. c.items.ensures.of_tree n (of_tree-behind n c.append.new.self c.args.found c.args.value c.in_ok-append.ensures.ok found value)
