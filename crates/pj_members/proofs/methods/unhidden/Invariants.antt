use Rattle.std.proofs.Common.{◌≡◌, ◌++◌, length, reverse}
use Rattle.std.specs.FinSet as set
use Rattle.pj_types.specs.Members.{all_methods}
use Rattle.pj_members.specs.Methods.{unhidden}
use Rattle.pj_members.proofs.methods.unhidden.Given as goal

abbrev pub invariant-loop-method : goal.invariant-loop-method
invariant-loop-method l = all_methods l.left ++ unhidden l.keys (all_methods (reverse l.rest.items)) ≡ unhidden set.empty (all_methods l.fn.found)

abbrev pub decreases-loop-method : goal.decreases-loop-method
decreases-loop-method l = length l.rest.items
