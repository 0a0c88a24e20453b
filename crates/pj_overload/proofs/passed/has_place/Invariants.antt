use Rattle.std.proofs.Common.{◌≡◌, drop}
use Rattle.pj_overload.specs.Passed.{has_place}
use Rattle.pj_overload.proofs.passed.has_place.Given as goal

abbrev pub invariant-loop-other : goal.invariant-loop-other
invariant-loop-other l = has_place l.places l.place ≡ has_place (drop l.other-index l.other-items) l.place
