use Rattle.std.proofs.Common.{ap, ◌∙◌, subst, sym, length}
use Rattle.std.specs.Prelude.{find}
use Rattle.pj_tree.specs.Kinds.{is_kind}
use Rattle.pj_tree.proofs.Inside.{AreInside, are_inside}
use Rattle.pj_tree.proofs.children_by_kind.child_of.Goals as goal

pub loop-child-init : goal.loop-child-init
loop-child-init c =
    let t = c.args.tree.now in
    let same = c.into_iter-child-iterator.ensures.into_iter_gives in (
      ap (find (is_kind t c.args.kind)) (same ∙ c.children-child-items.ensures.value),
      subst (AreInside (length t.nodes)) (sym same) (are_inside c.args.n (length t.nodes) c.children-child-items.result c.children-child-items.ensures.inside),
    )
