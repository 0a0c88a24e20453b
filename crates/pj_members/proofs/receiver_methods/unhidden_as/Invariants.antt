use Rattle.std.proofs.Common.{◌≡◌, ◌++◌, length, reverse}
use Rattle.std.specs.FinSet as set
use Rattle.pj_types.specs.Members.{all_methods}
use Rattle.pj_members.specs.Receivers.{unhidden_as}
use Rattle.pj_members.proofs.receiver_methods.unhidden_as.Given as goal

abbrev pub invariant-loop-other : goal.invariant-loop-other
invariant-loop-other l =
    all_methods l.left ++ unhidden_as l.keys (all_methods (reverse l.others.items)) (all_methods (reverse l.rest.items))
    ≡ unhidden_as set.empty (all_methods l.fn.declared) (all_methods l.fn.given)

abbrev pub decreases-loop-other : goal.decreases-loop-other
decreases-loop-other l = length l.others.items
