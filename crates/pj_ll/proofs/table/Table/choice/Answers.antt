use Rattle.std.proofs.Common.{◌≡◌, ◌∙◌, sym, ap, subst, arith, None}
use Rattle.std.specs.Prelude.{map}
use Rattle.pj_ll.specs.Entries.{entry_of}
use Rattle.pj_ll.specs.Table.{IsChoice, cell, choice_in, column_of}
use Rattle.pj_ll.proofs.Choices.{row_read, row_past}
use Rattle.pj_ll.proofs.table.Table.choice.Goals as goal

pub returns : goal.returns
returns c =
    let rows = c.self.inside.rows.items in
    let row = row_read rows c.index.result.now c.args.rule (omega arith) c.index.ensures in
    let is : choice_in rows c.args.rule c.args.ahead ≡ c.cell.result =
    ap (λ r. cell r (column_of c.args.ahead)) row
    ∙ ap (cell c.index.result.now.items) (sym c.column_of.ensures)
    ∙ ap (λ r. cell r c.column_of.result) (sym c.deref.ensures.value)
    ∙ sym c.cell.ensures in
    subst (λ ps. IsChoice ps c.args.rule c.args.ahead c.cell.result) c.self.view_is
    (subst (IsChoice (map entry_of c.self.inside.productions.items) c.args.rule c.args.ahead) is (c.self.invariant.choice c.args.rule c.args.ahead))

pub returns-then-rule-len : goal.returns-then-rule-len
returns-then-rule-len c =
    let rows = c.self.inside.rows.items in
    let is : choice_in rows c.args.rule c.args.ahead ≡ None =
    ap (λ r. cell r (column_of c.args.ahead)) (row_past rows c.args.rule (omega arith)) in
    subst (λ ps. IsChoice ps c.args.rule c.args.ahead None) c.self.view_is
    (subst (IsChoice (map entry_of c.self.inside.productions.items) c.args.rule c.args.ahead) is (c.self.invariant.choice c.args.rule c.args.ahead))
