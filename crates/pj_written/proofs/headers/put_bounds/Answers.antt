use Rattle.std.proofs.Common.{ap, ◌∙◌, ◌++◌, subst, sym, length}
use Rattle.pj_tree.proofs.Inside.{AreInside, are_inside}
use Rattle.pj_written.specs.Headers.{bounds_among}
use Rattle.pj_written.proofs.headers.put_bounds.Goals as goal

pub loop-child-init : goal.loop-child-init
loop-child-init c =
    let t = c.args.tree.now in
    let same = c.into_iter-child-iterator.ensures.into_iter_gives in (
      ap (λ ns. c.args.nodes.now ++ bounds_among t ns) (same ∙ c.children-child-items.ensures.value),
      subst (AreInside (length t.nodes)) (sym same) (are_inside c.args.parameter (length t.nodes) c.children-child-items.result c.children-child-items.ensures.inside),
    )
