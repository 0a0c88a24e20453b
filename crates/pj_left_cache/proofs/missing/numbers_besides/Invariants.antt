use Rattle.std.proofs.Common.{◌≡◌, ◌++◌, drop, map}
use Rattle.pj_left_cache.specs.Missing.{missing_from}
use Rattle.pj_left_cache.proofs.MissingLaws.{number}
use Rattle.pj_left_cache.proofs.missing.numbers_besides.Given as goal

abbrev pub invariant-loop-i : goal.invariant-loop-i
invariant-loop-i l = l.numbers ++ map number (missing_from l.held.keys l.i (drop l.i l.keys) (drop l.i l.is_active)) ≡ map number (missing_from l.fn.held.keys 0 l.keys l.is_active)
