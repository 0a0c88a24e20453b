use Rattle.std.proofs.Common.{◌++◌, ◌∙◌, ap, filter, length, subst, sym}
use Rattle.pj_tree.specs.declared.node.Node.{Node}
use Rattle.pj_tree.proofs.Inside.{AreInside, are_inside}
use Rattle.pj_scopes.specs.StaticImports.{imports_name}
use Rattle.pj_scopes.proofs.imports.put_named.Goals as goal

pub loop-child-init : goal.loop-child-init
loop-child-init c =
    let t = c.args.tree.now in
    let root : Node = record { 0 = 0 } in
    let same = c.into_iter-child-iterator.ensures.into_iter_gives in
    record {
      value = ap (λ children. c.args.nodes.now ++ filter (imports_name t c.args.name.now) children) (same ∙ c.children-child-items.ensures.value);
      inside = subst (AreInside (length t.nodes)) (sym same) (are_inside root (length t.nodes) c.children-child-items.result c.children-child-items.ensures.inside);
    }
