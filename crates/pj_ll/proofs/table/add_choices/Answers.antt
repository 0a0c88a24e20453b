use Rattle.std.proofs.Common.{◌≡◌, ◌∙◌, sym, ap, subst, arith, get_or, take, false, ◌+◌}
use Rattle.pj_ll.specs.Table.{AddsChoices, cell}
use Rattle.pj_ll.proofs.Lists.{take_read}
use Rattle.pj_ll.proofs.Choices.{one_more}
use Rattle.pj_ll.proofs.table.add_choices.Goals as goal

pub loop-terminal-preserved : goal.loop-terminal-preserved
loop-terminal-preserved c =
    let on = c.args.production.now.on.items in
    let k = c.loop-terminal.terminal-index in
    let column : c.column_of.result ≡ get_or on k 0 + 1 = c.column_of.ensures ∙ ap (λ l. get_or l k 0 + 1) c.deref-terminal-items.ensures.value in
    subst (λ l. AddsChoices l false c.args.number c.args.row.now.items c.set.new.row.items) (sym (take_read on k 0 (omega arith)))
    (one_more (take k on) c.args.number (get_or on k 0) c.args.row.now.items c.loop-terminal.row.items c.set.new.row.items c.loop-terminal.invariant
    (ap (cell c.set.new.row.items) (sym column) ∙ c.in_ok-set.ensures.here)
    (λ d differs. c.in_ok-set.ensures.others d (λ e. differs (e ∙ column))))
