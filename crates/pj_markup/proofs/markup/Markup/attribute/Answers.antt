use Rattle.std.proofs.Common.{◌≡◌, ℕ, List, Option, IfOk, ap, sym, subst, ◌∙◌}
use Rattle.pj_markup.specs.Elements.{Row, value_of}
use Rattle.pj_markup.proofs.Rows.{row_none, row_some}
use Rattle.pj_markup.proofs.markup.Markup.attribute.Goals as goal

pub returns-in-None : goal.returns-in-None
returns-in-None c = ap (λ (r : Row). value_of c.args.name.now r.attributes) (sym (row_none c.args.self.now c.args.element.number (sym c.in-None.ensures)))

pub returns-in-Some : goal.returns-in-Some
returns-in-Some c =
    subst (λ (t : Option (List ℕ)). IfOk c.copied.result (λ copy. copy ≡ t))
    (c.value_of.ensures ∙ ap (value_of c.args.name.now) c.as_slice.ensures
    ∙ ap (λ (r : Row). value_of c.args.name.now r.attributes) (sym (row_some c.args.self.now c.args.element.number c.in-Some.row.now (sym c.in-Some.ensures)))) c.copied.ensures
