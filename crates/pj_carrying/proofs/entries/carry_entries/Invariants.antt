use Rattle.std.proofs.Common.{◌≡◌, ◌++◌}
use Rattle.pj_carry.specs.Carried.{carried_entries}
use Rattle.pj_carrying.proofs.entries.carry_entries.Given as goal

abbrev pub invariant-loop-entry : goal.invariant-loop-entry
invariant-loop-entry l = l.entries ++ carried_entries l.firsts l.entry-iterator.rest.items ≡ carried_entries l.firsts l.fn.old
