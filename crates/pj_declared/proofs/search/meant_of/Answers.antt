use Rattle.std.proofs.Common.{◌≡◌, Some, arith, sym, ◌∙◌, subst}
use Rattle.pj_tree.specs.Tree.{parent_of}
use Rattle.pj_declared.proofs.Around.{above_is, root_is}
use Rattle.pj_declared.proofs.Along.{IsLeft, left_first, left_next, left_last}
use Rattle.pj_declared.proofs.search.meant_of.Goals as goal

pub loop-around-init : goal.loop-around-init
loop-around-init c =
    (c.requires.inside, left_first c.args.tree.now c.args.rows.now c.args.name.now c.args.place c.nearest_within-known.result c.nearest_within-known.ensures)

pub loop-around-preserved : goal.loop-around-preserved
loop-around-preserved c =
    let t = c.args.tree.now in
    let up : parent_of t c.loop-around.at ≡ Some c.in-Some.around = sym c.in-Some.ensures.value in
    let above = above_is t c.loop-around.at c.in-Some.around c.len-nodes.ensures.tree c.loop-around.invariant.0 up in
    let left = left_next t c.args.rows.now c.args.name.now c.args.place c.loop-around.at c.in-Some.around c.loop-around.known c.nearest_within.result above c.nearest_within.ensures c.loop-around.invariant.1 in (
      omega (arith, c.loop-around.invariant.0, c.in-Some.ensures.before),
      subst (IsLeft t c.args.rows.now c.args.name.now c.args.place c.in-Some.around) (sym c.nearer_of-known.ensures) left,
    )

pub returns : goal.returns
returns c =
    let t = c.args.tree.now in
    let top = root_is t c.loop-around.at c.len-nodes.ensures.tree c.loop-around.invariant.0 (sym c.parent.ensures.value ∙ c.in_default.is) in
    left_last t c.args.rows.now c.args.name.now c.args.place c.loop-around.at c.loop-around.known top c.loop-around.invariant.1
