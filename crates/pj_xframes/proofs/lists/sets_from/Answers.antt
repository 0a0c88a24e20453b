use Rattle.std.proofs.Common.{List, Result, ap, subst, sym}
use Rattle.pj_xvalue.specs.declared.fault.XCode.{XCode}
use Rattle.pj_xvalue.specs.declared.item.Item.{Item}
use Rattle.pj_xvalue.specs.Items.{ItemValue, values_of}
use Rattle.pj_xvalue.specs.OfTree.{OfTree}
use Rattle.pj_xsteps.specs.Denotes.{denotes, behind, with_set}
use Rattle.pj_xsteps.specs.Means.{Means, ◌>>=◌, chain, judged}
use Rattle.pj_xsteps.specs.Parts.{operated_by}
use Rattle.pj_xframes.specs.Going.{Goes}
use Rattle.pj_xframes.specs.Scopes.{variables_of}
use Rattle.pj_xframes.proofs.lists.sets_from.Goals as goal

pub returns-clause-goes : goal.returns-clause-goes
returns-clause-goes c = λ a reply at s.
    subst (λ (meant : Means (List ItemValue)). Goes a reply meant at s at s c.sets.result)
    (ap (λ (nodes : Result (List ItemValue) XCode). judged nodes >>= λ found. chain (behind at (variables_of s)) with_set (operated_by (denotes a reply) c.args.parts.now) found) c.in_ok-found.ensures.value)
    (c.sets.ensures.goes a reply at s)

pub returns-clause-of_tree : goal.returns-clause-of_tree
returns-clause-of_tree c = λ n value. c.sets.ensures.of_tree n (subst (λ (items : List Item). OfTree n (values_of items)) (sym c.in_ok-found.ensures.same) value)
