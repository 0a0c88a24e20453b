use Rattle.std.proofs.Common.{ap, ◌∙◌}
use Rattle.pj_tree.specs.Tree.{Tree}
use Rattle.pj_declared.specs.Nearest.{variable_meant, meant_among}
use Rattle.pj_declared.specs.Rows.{variables_of}
use Rattle.pj_declared.proofs.Along.{meant_moved}
use Rattle.pj_declared.proofs.declarations.Declarations.variable.Goals as goal

pub returns : goal.returns
returns c =
    let t = c.self.inside.tree.now in
    c.meant_among.ensures
    ∙ ap (λ xs. meant_among t xs c.args.name.now c.args.place) c.as_slice.ensures.value
    ∙ meant_moved t (variables_of t) c.self.inside.variables.items c.args.name.now c.args.place c.self.invariant.0.0
    ∙ ap (λ (u : Tree). variable_meant u c.args.name.now c.args.place) c.self.view_is
