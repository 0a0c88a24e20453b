use Rattle.std.proofs.Common.{ap, ◌∙◌, subst, sym, length}
use Rattle.std.specs.Prelude.{find}
use Rattle.pj_tree.proofs.Inside.{AreInside, are_inside}
use Rattle.pj_written.specs.Words.{writes_type}
use Rattle.pj_written.proofs.nodes.type_child.Goals as goal

pub loop-child-init : goal.loop-child-init
loop-child-init c =
    let t = c.args.tree.now in
    let same = c.into_iter-child-iterator.ensures.into_iter_gives in (
      ap (find (writes_type t)) (same ∙ c.children-child-items.ensures.value),
      subst (AreInside (length t.nodes)) (sym same) (are_inside c.args.n (length t.nodes) c.children-child-items.result c.children-child-items.ensures.inside),
    )
