use Rattle.std.proofs.Common.{◌++◌, ◌∙◌, ap, filter, length, subst, sym}
use Rattle.pj_tree.proofs.Inside.{AreInside, are_inside}
use Rattle.pj_tree.specs.Kinds.{is_kind}
use Rattle.pj_file_oracle.proofs.nodes.listed_of_kind.Goals as goal

pub loop-child-init : goal.loop-child-init
loop-child-init c =
    let t = c.args.tree.now in
    let same = c.into_iter-child-iterator.ensures.into_iter_gives in
    record {
      value = ap (λ nodes. nodes ++ filter (is_kind t c.args.kind) c.into_iter-child-iterator.result) c.new-nodes.ensures ∙ ap (filter (is_kind t c.args.kind)) (same ∙ c.children-child-items.ensures.value);
      inside = subst (AreInside (length t.nodes)) (sym same) (are_inside c.args.n (length t.nodes) c.children-child-items.result c.children-child-items.ensures.inside);
    }
