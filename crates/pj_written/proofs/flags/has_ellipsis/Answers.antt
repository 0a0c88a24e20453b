use Rattle.std.proofs.Common.{ap, ◌∙◌, subst, sym, length}
use Rattle.std.specs.List.{list_any}
use Rattle.pj_tree.proofs.Inside.{AreInside, are_inside}
use Rattle.pj_written.specs.Flags.{is_ellipsis}
use Rattle.pj_written.proofs.flags.has_ellipsis.Goals as goal

pub loop-brackets-init : goal.loop-brackets-init
loop-brackets-init c =
    let t = c.args.tree.now in
    let same = c.into_iter-brackets-iterator.ensures.into_iter_gives in (
      ap (list_any (is_ellipsis t)) (same ∙ c.children-brackets-items.ensures.value),
      subst (AreInside (length t.nodes)) (sym same) (are_inside c.args.list (length t.nodes) c.children-brackets-items.result c.children-brackets-items.ensures.inside),
    )
