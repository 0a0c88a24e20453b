use Rattle.std.proofs.Common.{ap, ◌∙◌}
use Rattle.pj_tree.specs.Tree.{Tree}
use Rattle.pj_declared.specs.Nearest.{type_meant, meant_among}
use Rattle.pj_declared.specs.Rows.{types_of}
use Rattle.pj_declared.proofs.Along.{meant_moved}
use Rattle.pj_declared.proofs.declarations.Declarations.class_or_type_parameter.Goals as goal

pub returns : goal.returns
returns c =
    let t = c.self.inside.tree.now in
    c.meant_among.ensures
    ∙ ap (λ xs. meant_among t xs c.args.name.now c.args.place) c.as_slice.ensures.value
    ∙ meant_moved t (types_of t) c.self.inside.types.items c.args.name.now c.args.place c.self.invariant.1.0
    ∙ ap (λ (u : Tree). type_meant u c.args.name.now c.args.place) c.self.view_is
