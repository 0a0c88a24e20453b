use Rattle.std.proofs.Common.{◌++◌, ◌∙◌, ap, filter, length, subst, sym}
use Rattle.pj_tree.specs.declared.node.Node.{Node}
use Rattle.pj_tree.proofs.Inside.{AreInside, are_inside}
use Rattle.pj_outer_names.specs.Imports.{is_import_on_demand}
use Rattle.pj_outer_names.proofs.on_demand.listed_on_demand.Goals as goal

pub loop-child-init : goal.loop-child-init
loop-child-init c =
    let t = c.args.tree.now in
    let root : Node = record { 0 = 0 } in
    let same = c.into_iter-child-iterator.ensures.into_iter_gives in
    record {
      value = ap (λ nodes. nodes ++ filter (is_import_on_demand t) c.into_iter-child-iterator.result) c.new-nodes.ensures ∙ ap (filter (is_import_on_demand t)) (same ∙ c.children-child-items.ensures.value);
      inside = subst (AreInside (length t.nodes)) (sym same) (are_inside root (length t.nodes) c.children-child-items.result c.children-child-items.ensures.inside);
    }
