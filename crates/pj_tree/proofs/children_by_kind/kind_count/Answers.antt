use Rattle.std.proofs.Common.{ap, ◌∙◌, subst, sym, length, arith, zero-add}
use Rattle.std.specs.Prelude.{count_by}
use Rattle.pj_tree.specs.Kinds.{is_kind}
use Rattle.pj_tree.proofs.Inside.{AreInside, are_inside}
use Rattle.pj_tree.proofs.children_by_kind.kind_count.Goals as goal

pub loop-child-init : goal.loop-child-init
loop-child-init c =
    let t = c.args.tree.now in
    let same = c.into_iter-child-iterator.ensures.into_iter_gives in
    let len = ap length same in
    record {
      counted = zero-add (count_by (is_kind t c.args.kind) c.into_iter-child-iterator.result) ∙ ap (count_by (is_kind t c.args.kind)) (same ∙ c.children-child-items.ensures.value);
      few = omega (arith, len, c.children-child-items.ensures.few);
      inside = subst (AreInside (length t.nodes)) (sym same) (are_inside c.args.n (length t.nodes) c.children-child-items.result c.children-child-items.ensures.inside);
    }
