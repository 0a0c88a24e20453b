use Rattle.pj_peg.proofs.Columns.{AreKindsSoFar}
use Rattle.pj_peg.proofs.slots.slots_by_kind.Given as goal

abbrev pub invariant-loop-kind : goal.invariant-loop-kind
invariant-loop-kind l = AreKindsSoFar l.program l.all.items l.kind
