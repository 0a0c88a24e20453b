use Rattle.std.proofs.Common.{◌≡◌, ◌++◌, drop}
use Rattle.pj_left_cache.specs.Said.{said_from}
use Rattle.pj_left_cache.proofs.saying.said_from.Given as goal

abbrev pub invariant-loop-i : goal.invariant-loop-i
invariant-loop-i l = l.all ++ said_from l.rows.entries (drop l.i l.keys) (drop l.i l.is_active) ≡ said_from l.rows.entries l.keys l.is_active
