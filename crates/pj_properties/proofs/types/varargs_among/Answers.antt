use Rattle.std.proofs.Common.{ap, ◌∙◌, subst, sym, length}
use Rattle.std.specs.List.{list_any}
use Rattle.pj_tree.proofs.Inside.{AreInside, are_inside}
use Rattle.pj_properties.specs.Flags.{is_varargs}
use Rattle.pj_properties.proofs.types.varargs_among.Goals as goal

pub loop-parameter-init : goal.loop-parameter-init
loop-parameter-init c =
    let t = c.args.tree.now in
    let same = c.into_iter-parameter-iterator.ensures.into_iter_gives in (
      ap (list_any (is_varargs t)) (same ∙ c.children-parameter-items.ensures.value),
      subst (AreInside (length t.nodes)) (sym same) (are_inside c.args.parameters (length t.nodes) c.children-parameter-items.result c.children-parameter-items.ensures.inside),
    )
