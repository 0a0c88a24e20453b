use Rattle.std.proofs.Common.{◌≡◌, drop}
use Rattle.pj_xfuncs.specs.Numbers.{best, lesser}
use Rattle.pj_xfuncs.proofs.numbers.least.Given as goal

abbrev pub invariant-loop-z : goal.invariant-loop-z
invariant-loop-z l = best lesser l.so_far (drop l.z-index l.rest) ≡ best lesser l.first l.rest
