use Rattle.pj_peg.proofs.Columns.{AreSlotsSoFar}
use Rattle.pj_peg.proofs.slots.slots_for.Given as goal

abbrev pub invariant-loop-column : goal.invariant-loop-column
invariant-loop-column l = AreSlotsSoFar l.program l.kind l.slots.items l.width l.column
