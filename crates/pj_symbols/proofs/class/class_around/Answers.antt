use Rattle.std.proofs.Common.{◌≡◌, ◌<◌, true, false, None, Some, length, arith, sym, ◌∙◌}
use Rattle.pj_tree.specs.Tree.{parent_of}
use Rattle.pj_symbols.specs.Kinds.{declares_class}
use Rattle.pj_symbols.proofs.ClassLaws.{declares, around_found, around_skipped, around_none, name_found, name_skipped, name_none}
use Rattle.pj_symbols.proofs.class.class_around.Goals as goal

pub returns-then-is_class-clause-value : goal.returns-then-is_class-clause-value
returns-then-is_class-clause-value c =
    let t = c.args.tree.now in
    let is : declares_class t c.in-Some.above ≡ true = declares t c.in-Some.above c.kind.result true c.kind.ensures.value (sym c.is_class.ensures ∙ c.if-is_class.true) in
    sym (around_found t c.loop-above.at c.in-Some.above c.len-nodes.ensures.tree (omega (arith, c.loop-above.invariant.0)) (sym c.in-Some.ensures.value) is) ∙ c.loop-above.invariant.1

pub returns-then-is_class-clause-name : goal.returns-then-is_class-clause-name
returns-then-is_class-clause-name c =
    let t = c.args.tree.now in
    let is : declares_class t c.in-Some.above ≡ true = declares t c.in-Some.above c.kind.result true c.kind.ensures.value (sym c.is_class.ensures ∙ c.if-is_class.true) in
    sym c.loop-above.invariant.2 ∙ name_found t c.loop-above.at c.in-Some.above c.len-nodes.ensures.tree (omega (arith, c.loop-above.invariant.0)) (sym c.in-Some.ensures.value) is

pub loop-above-preserved : goal.loop-above-preserved
loop-above-preserved c =
    let t = c.args.tree.now in
    let is : declares_class t c.in-Some.above ≡ false = declares t c.in-Some.above c.kind.result false c.kind.ensures.value (sym c.is_class.ensures ∙ c.if-is_class.false) in
    let inside : c.loop-above.at.0 < length t.nodes = omega (arith, c.loop-above.invariant.0) in
    let up : parent_of t c.loop-above.at ≡ Some c.in-Some.above = sym c.in-Some.ensures.value in (
      omega (arith, c.loop-above.invariant.0, c.in-Some.ensures.before),
      sym (around_skipped t c.loop-above.at c.in-Some.above c.len-nodes.ensures.tree inside up is) ∙ c.loop-above.invariant.1,
      sym (name_skipped t c.loop-above.at c.in-Some.above c.len-nodes.ensures.tree inside up is) ∙ c.loop-above.invariant.2,
    )

pub returns-clause-value : goal.returns-clause-value
returns-clause-value c =
    let t = c.args.tree.now in
    let up : parent_of t c.loop-above.at ≡ None = sym c.parent.ensures.value ∙ c.in_default.is in
    sym (around_none t c.loop-above.at c.len-nodes.ensures.tree (omega (arith, c.loop-above.invariant.0)) up) ∙ c.loop-above.invariant.1

pub returns-clause-name : goal.returns-clause-name
returns-clause-name c =
    let t = c.args.tree.now in
    let up : parent_of t c.loop-above.at ≡ None = sym c.parent.ensures.value ∙ c.in_default.is in
    sym c.loop-above.invariant.2 ∙ name_none t c.loop-above.at c.len-nodes.ensures.tree (omega (arith, c.loop-above.invariant.0)) up
