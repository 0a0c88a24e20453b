use Rattle.pj_peg.proofs.Cells.{AreUnknown}
use Rattle.pj_peg.proofs.table.Table.new.Given as goal

abbrev pub invariant-loop-place : goal.invariant-loop-place
invariant-loop-place l = AreUnknown l.kinds l.slots l.rows.items l.place
