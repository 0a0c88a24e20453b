use Rattle.std.proofs.Common.{◌≡◌, None, replicate}
use Rattle.pj_crew.proofs.placing.no_results.Given as goal

abbrev pub invariant-loop : goal.invariant-loop
invariant-loop g l = l.places.items ≡ replicate l.counter None
