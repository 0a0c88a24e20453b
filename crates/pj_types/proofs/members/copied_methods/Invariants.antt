use Rattle.std.proofs.Common.{◌≡◌, take}
use Rattle.pj_types.specs.Members.{all_methods}
use Rattle.pj_types.proofs.members.copied_methods.Given as goal

abbrev pub invariant-loop-method : goal.invariant-loop-method
invariant-loop-method l = all_methods l.copy ≡ all_methods (take l.method-index l.method-items)
