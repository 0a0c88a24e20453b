use Rattle.std.proofs.Common.{List, map, subst}
use Rattle.pj_xvalue.specs.declared.item.Item.{Item}
use Rattle.pj_xvalue.specs.Items.{values_of}
use Rattle.pj_xvalue.specs.Replies.{outcome}
use Rattle.pj_xvalue.specs.Arguments.{IsGiven}
use Rattle.pj_xfuncs.specs.Library.{called}
use Rattle.pj_xfuncs.proofs.OfTree.{returned-of_tree}
use Rattle.pj_xfuncs.proofs.library.call.Goals as goal

pub returns-clause-of_tree : goal.returns-clause-of_tree
returns-clause-of_tree c = λ n h.
    returned-of_tree n c.args.patterns.now c.args.function (map values_of c.args.arguments.now) c.given.result
    (subst (λ (xs : List (List Item)). IsGiven (called c.args.patterns.now c.args.function (map values_of xs)) (outcome values_of c.given.result)) c.as_slice.ensures c.given.ensures) h
