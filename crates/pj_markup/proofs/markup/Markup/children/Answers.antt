use Rattle.std.proofs.Common.{ap, sym, ◌∙◌}
use Rattle.pj_markup.specs.Elements.{Row}
use Rattle.pj_markup.proofs.Rows.{row_none, row_some}
use Rattle.pj_markup.proofs.markup.Markup.children.Goals as goal

pub returns-in-None : goal.returns-in-None
returns-in-None c = ap (λ (r : Row). r.children) (sym (row_none c.args.self.now c.args.element.number (sym c.in-None.ensures)))

pub returns-in-Some : goal.returns-in-Some
returns-in-Some c = c.as_slice.ensures ∙ ap (λ (r : Row). r.children) (sym (row_some c.args.self.now c.args.element.number c.in-Some.row.now (sym c.in-Some.ensures)))
