use Rattle.std.proofs.Common.{ap, ◌∙◌, subst, sym, length}
use Rattle.std.specs.List.{list_any}
use Rattle.pj_tree.proofs.Inside.{AreInside, are_inside}
use Rattle.pj_properties.specs.Flags.{is_default_branch}
use Rattle.pj_properties.proofs.flags.has_default.Goals as goal

pub loop-branch-init : goal.loop-branch-init
loop-branch-init c =
    let t = c.args.tree.now in
    let same = c.into_iter-branch-iterator.ensures.into_iter_gives in (
      ap (list_any (is_default_branch t)) (same ∙ c.children-branch-items.ensures.value),
      subst (AreInside (length t.nodes)) (sym same) (are_inside c.args.n (length t.nodes) c.children-branch-items.result c.children-branch-items.ensures.inside),
    )
