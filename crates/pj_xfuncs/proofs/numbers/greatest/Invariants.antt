use Rattle.std.proofs.Common.{◌≡◌, drop}
use Rattle.pj_xfuncs.specs.Numbers.{best, greater}
use Rattle.pj_xfuncs.proofs.numbers.greatest.Given as goal

abbrev pub invariant-loop-z : goal.invariant-loop-z
invariant-loop-z l = best greater l.so_far (drop l.z-index l.rest) ≡ best greater l.first l.rest
