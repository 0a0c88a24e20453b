use Rattle.std.proofs.Common.{◌≡◌, None, Some, arith, sym, ◌∙◌}
use Rattle.pj_tree.specs.Tree.{parent_of}
use Rattle.pj_declared.proofs.Around.{end_found, end_skipped, end_none}
use Rattle.pj_declared.proofs.bindings.binding_end.Goals as goal

pub returns-then-ends_binding : goal.returns-then-ends_binding
returns-then-ends_binding c =
    let t = c.args.tree.now in
    let up : parent_of t c.loop-around.at ≡ Some c.in-Some.around = sym c.in-Some.ensures.value in
    sym (end_found t c.loop-around.at c.in-Some.around c.len-nodes.ensures.tree c.loop-around.invariant.0 up (sym c.ends_binding.ensures ∙ c.if-ends_binding.true)) ∙ c.loop-around.invariant.1

pub loop-around-preserved : goal.loop-around-preserved
loop-around-preserved c =
    let t = c.args.tree.now in
    let up : parent_of t c.loop-around.at ≡ Some c.in-Some.around = sym c.in-Some.ensures.value in (
      omega (arith, c.loop-around.invariant.0, c.in-Some.ensures.before),
      sym (end_skipped t c.loop-around.at c.in-Some.around c.len-nodes.ensures.tree c.loop-around.invariant.0 up (sym c.ends_binding.ensures ∙ c.if-ends_binding.false)) ∙ c.loop-around.invariant.1,
    )

pub returns : goal.returns
returns c =
    let t = c.args.tree.now in
    let up : parent_of t c.loop-around.at ≡ None = sym c.parent.ensures.value ∙ c.in_default.is in
    sym (end_none t c.loop-around.at c.len-nodes.ensures.tree c.loop-around.invariant.0 up) ∙ c.loop-around.invariant.1
