use Rattle.std.proofs.Common.{◌≡◌, drop, pos, Ok}
use Rattle.pj_xfuncs.specs.Gathered.{sum_behind}
use Rattle.pj_xfuncs.proofs.numbers.sum_from.Given as goal

abbrev pub invariant-loop-z : goal.invariant-loop-z
invariant-loop-z l = sum_behind l.total (drop l.z-index l.numbers) ≡ sum_behind (Ok (pos 0)) l.numbers
