use Rattle.std.proofs.Common.{sym, subst, map, arith, List}
use Rattle.pj_xvalue.specs.declared.item.Item.{Item}
use Rattle.pj_xvalue.specs.Items.{values_of}
use Rattle.pj_xvalue.specs.OfTree.{OfTree, ArgumentsOfTree}
use Rattle.pj_xsteps.proofs.OfTree.{arguments-at}
use Rattle.pj_xsteps.proofs.calling.or_context.Goals as goal

pub returns-in_ok-copy-in-len1-up-clause-of_tree : goal.returns-in_ok-copy-in-len1-up-clause-of_tree
returns-in_ok-copy-in-len1-up-clause-of_tree c = λ n item all.
    subst (λ (xs : List Item). OfTree n (values_of xs)) (sym c.in_ok-copy-in-len1-up.ensures)
    (arguments-at n c.as_slice.result.now 0 c.argument-item.result (omega arith) c.argument-item.is (subst (λ (xs : List (List Item)). ArgumentsOfTree n (map values_of xs)) (sym c.as_slice.ensures) all))
