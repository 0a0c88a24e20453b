use Rattle.std.proofs.Common.{ap, ◌∙◌, ◌++◌, subst, sym, length}
use Rattle.pj_tree.proofs.Inside.{AreInside, are_inside}
use Rattle.pj_written.specs.Headers.{listed_bounds}
use Rattle.pj_written.proofs.headers.put_listed_bounds.Goals as goal

pub loop-parameter-init : goal.loop-parameter-init
loop-parameter-init c =
    let t = c.args.tree.now in
    let same = c.into_iter-parameter-iterator.ensures.into_iter_gives in (
      ap (λ ns. c.args.nodes.now ++ listed_bounds t ns) (same ∙ c.children-parameter-items.ensures.value),
      subst (AreInside (length t.nodes)) (sym same) (are_inside c.args.list (length t.nodes) c.children-parameter-items.result c.children-parameter-items.ensures.inside),
    )
