use Rattle.std.proofs.Common.{◌≡◌, Ok, map}
use Rattle.pj_crew.proofs.shares.all_shares.Given as goal

abbrev pub invariant-loop-end : goal.invariant-loop-end
invariant-loop-end g l = map (λ share. Ok share) l.shares.items ≡ l.yielded
