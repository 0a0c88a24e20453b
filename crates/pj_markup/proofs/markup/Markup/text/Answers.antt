use Rattle.std.proofs.Common.{◌≡◌, ℕ, List, IfOk, ap, sym, subst, ◌∙◌}
use Rattle.pj_markup.specs.Elements.{Row}
use Rattle.pj_markup.proofs.Rows.{row_none, row_some}
use Rattle.pj_markup.proofs.markup.Markup.text.Goals as goal

pub returns-in-None : goal.returns-in-None
returns-in-None c = c.new.ensures ∙ ap (λ (r : Row). r.text) (sym (row_none c.args.self.now c.args.element.number (sym c.in-None.ensures)))

pub returns-in-Some : goal.returns-in-Some
returns-in-Some c =
    subst (λ (t : List ℕ). IfOk c.copied.result (λ copy. copy ≡ t)) (ap (λ (r : Row). r.text) (sym (row_some c.args.self.now c.args.element.number c.in-Some.row.now (sym c.in-Some.ensures)))) c.copied.ensures
