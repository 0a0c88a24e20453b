use Rattle.std.proofs.Common.{◌++◌, ◌∷◌, [], ◌+◌, ◌-◌, ap, ◌∙◌, append_assoc, arith, filter, map, List}
use Rattle.pj_tree.specs.declared.node.Node.{Node}
use Rattle.pj_xvalue.specs.Items.{ItemValue, Element, values_of}
use Rattle.pj_xaxes.specs.Axes.{node}
use Rattle.pj_xsteps.specs.Steps.{passes}
use Rattle.pj_xeval.specs.Over.{above, items_above}
use Rattle.pj_xeval.proofs.Parents.{step-above}
use Rattle.pj_xeval.proofs.over.push_items_above.Goals as goal

pub loop-number-preserved : goal.loop-number-preserved
loop-number-preserved c =
    let t = c.args.tree.now in
    let k = c.loop-number.number in
    let rest = items_above t c.args.test.now (k + 1) (c.args.to - (k + 1)) in
    let here = map (above t) (filter (λ (m : Node). passes t c.args.test.now (Element m)) (node k ∷ [])) in
    ap (λ (l : List ItemValue). l ++ rest) c.in_ok-push_item_above.ensures
    ∙ append_assoc (values_of c.loop-number.found) here rest
    ∙ ap (λ (l : List ItemValue). values_of c.loop-number.found ++ l) (step-above t c.args.test.now k c.args.to (omega arith))
    ∙ c.loop-number.invariant
