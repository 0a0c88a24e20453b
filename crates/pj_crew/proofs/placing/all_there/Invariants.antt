use Rattle.std.proofs.Common.{◌≡◌, Some, map}
use Rattle.pj_crew.proofs.placing.all_there.Given as goal

abbrev pub invariant-loop-place : goal.invariant-loop-place
invariant-loop-place g l = map (λ one. Some one) l.made.items ≡ l.yielded
