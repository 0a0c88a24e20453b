use Rattle.std.proofs.Common.{◌≡◌, ◌+◌, drop}
use Rattle.pj_outside.specs.Keeping.{place_of}
use Rattle.pj_outside.proofs.mem_keeper.place_of.Given as goal

abbrev pub invariant-loop-i : goal.invariant-loop-i
invariant-loop-i l = place_of l.pairs l.name ≡ l.i + place_of (drop l.i l.pairs) l.name
