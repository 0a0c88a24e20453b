use Rattle.std.proofs.Common.{◌≡◌, ℕ, ◌+◌, ◌-◌, ◌<◌, drop, ◌∙◌, ap, arith}
use Rattle.std.specs.Prelude.{◌&&◌, not}
use Rattle.pj_shape.specs.Marks.{is_class_of, marks_in, variables_in}
use Rattle.pj_shape.specs.NameLists.{has_place}
use Rattle.pj_shape.proofs.Marking.{words_in, mark_step, mark_begin, wanted}
use Rattle.pj_shape.proofs.marks.class_marks.Goals as goal

at_is : (at : ℕ) → 0 < at → at ≡ at - 1 + 1
at_is at lt = omega arith

pub loop-left-init : goal.loop-left-init
loop-left-init c = record {
  within = omega arith;
  state = mark_begin (words_in c.args.text.now c.args.tokens.now c.args.nodes.now) c.args.nodes.now c.new-found.result.items c.new-found.ensures.items;
}

pub loop-left-preserved : goal.loop-left-preserved
loop-left-preserved c = record {
  within = let h = c.loop-left.invariant.within in omega arith;
  state =
      mark_step (words_in c.args.text.now c.args.tokens.now c.args.nodes.now) c.args.nodes.now c.loop-left.left (c.loop-left.left - 1) c.loop-left.name c.name_at-name.result c.name_below.result c.loop-left.from c.node_at-node.result
      c.loop-left.found.items c.push.new.self.items c.is_class.result (at_is c.loop-left.left c.loop-left-test.true) c.node_at-node.ensures.value c.loop-left.invariant.state c.name_below.ensures c.name_at-name.ensures
      (c.is_class.ensures ∙ ap (λ d. is_class_of c.name_at-name.result && not d)
      (c.is_declared_name-declared.ensures.value ∙ c.in_ok-variables.ensures.value c.word.result.now ∙ ap (λ n. has_place c.args.text.now c.args.tokens.now n (variables_in c.args.nodes.now)) c.word.ensures.value))
      c.in_ok-push.ensures.items;
}

pub returns : goal.returns
returns c = record {
  value = λ ns is.
      c.reverse.ensures.items ∙ c.loop-left.invariant.state.found_are ∙
      ap (λ k. marks_in (words_in c.args.text.now c.args.tokens.now c.args.nodes.now) (drop k c.args.nodes.now)) (let h = c.loop-left-test.false in let z : c.loop-left.left ≡ 0 = omega arith in z) ∙
      wanted c.args.text.now c.args.tokens.now c.args.nodes.now ns is;
}
