use Rattle.std.proofs.Common.{ap, ◌∙◌, sym, subst, IsSome, Some}
use Rattle.pj_peg.specs.Table.{cell_at}
use Rattle.pj_peg.proofs.Cells.{cell_here, cell_others}
use Rattle.pj_peg.proofs.table.Table.set.Goals as goal

pub returns-clause-here : goal.returns-clause-here
returns-clause-here c =
    cell_here c.self.inside.rows.items c.args.place c.args.slot c.new.result c.index_mut-row.result.now c.index_mut-row.ensures.value
    (subst (λ t. IsSome (cell_at t c.args.place c.args.slot)) (sym c.self.view_is) c.requires.cell)
    ∙ ap Some c.new.ensures

pub returns-clause-others : goal.returns-clause-others
returns-clause-others c i k differs =
    cell_others c.self.inside.rows.items c.args.place c.args.slot c.new.result c.index_mut-row.result.now c.index_mut-row.ensures.value
    (subst (λ t. IsSome (cell_at t c.args.place c.args.slot)) (sym c.self.view_is) c.requires.cell) i k differs
    ∙ ap (λ t. cell_at t i k) c.self.view_is
