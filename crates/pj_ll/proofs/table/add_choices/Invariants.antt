use Rattle.std.proofs.Common.{take, false}
use Rattle.pj_ll.specs.Table.{AddsChoices}
use Rattle.pj_ll.proofs.table.add_choices.Given as goal

abbrev pub invariant-loop-terminal : goal.invariant-loop-terminal
invariant-loop-terminal l = AddsChoices (take l.terminal-index l.production.on.items) false l.number l.initial.row.items l.row.items
