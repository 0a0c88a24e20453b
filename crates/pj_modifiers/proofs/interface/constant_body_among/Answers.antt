use Rattle.std.proofs.Common.{ap, ◌∙◌, subst, sym, length}
use Rattle.std.specs.List.{list_any}
use Rattle.pj_tree.proofs.Inside.{AreInside, are_inside}
use Rattle.pj_modifiers.specs.Implied.{is_constant_body}
use Rattle.pj_modifiers.proofs.interface.constant_body_among.Goals as goal

pub loop-constant-init : goal.loop-constant-init
loop-constant-init c =
    let t = c.args.tree.now in
    let same = c.into_iter-constant-iterator.ensures.into_iter_gives in (
      ap (list_any (is_constant_body t)) (same ∙ c.children-constant-items.ensures.value),
      subst (AreInside (length t.nodes)) (sym same) (are_inside c.args.body (length t.nodes) c.children-constant-items.result c.children-constant-items.ensures.inside),
    )
