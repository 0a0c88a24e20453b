use Rattle.std.proofs.Common.{◌++◌, ◌<◌, ◌∙◌, length, filter, ap, sym, subst, List}
use Rattle.std.specs.List.{AllByRecursion}
use Rattle.std.proofs.lemmas.List.Elements.{recursion_from_All}
use Rattle.pj_tree.specs.declared.node.Node.{Node}
use Rattle.pj_xvalue.specs.Items.{values_of}
use Rattle.pj_xsteps.specs.Steps.{passes, elements}
use Rattle.pj_xsteps.proofs.axis_step.push_elements.Goals as goal

pub loop-m-init : goal.loop-m-init
loop-m-init c =
    let t = c.args.tree.now in
    let same = c.into_iter-m-iterator.ensures.into_iter_gives in
    record {
      found = ap (λ (ms : List Node). values_of c.args.items.now ++ filter (passes t c.args.test.now) (elements ms)) (same ∙ c.axis-m-items.ensures.nodes);
      inside = subst (λ (ms : List Node). AllByRecursion (λ m. m.0 < length t.nodes) ms) (sym same) (recursion_from_All (λ m. m.0 < length t.nodes) c.axis-m-items.result c.axis-m-items.ensures.inside);
    }
