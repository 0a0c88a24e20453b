use Rattle.std.proofs.Common.{take, map}
use Rattle.pj_ll.specs.Entries.{entry_of}
use Rattle.pj_ll.specs.Table.{AreChoices}
use Rattle.pj_ll.proofs.table.Table.new.Given as goal

abbrev pub invariant-loop-number : goal.invariant-loop-number
invariant-loop-number l = AreChoices (take l.number (map entry_of l.productions.items)) l.rows.items
