use Rattle.std.proofs.Common.{◌≡◌, ℕ, ◌+◌, ◌<◌, ◌≤◌, ◌-◌, length, reverse, ◌++◌, [], Some, slice_get, sym, ◌∙◌, ap, subst, arith}
use Rattle.std.proofs.lemmas.List.{length-replicate}
use Rattle.pj_shape.specs.Words.{is_small}
use Rattle.pj_shape.specs.Body.{IsBody}
use Rattle.pj_shape.specs.Flat.{raw, turns}
use Rattle.pj_shape.proofs.Backward.{State, top_of, begin, the_body, body_is, below_is, after_step, the_whole, the_result}
use Rattle.pj_shape.proofs.nodes.made_nodes.Goals as goal

at_is : (at : ℕ) → 0 < at → at ≡ at - 1 + 1
at_is at lt = omega arith

below_all : (at n : ℕ) → 0 < at → at ≤ n → at - 1 < n
below_all at n lt le = omega arith

pub loop-left-init : goal.loop-left-init
loop-left-init c = record {
  within = let e = c.len-count.ensures.len in omega arith;
  len = ap length c.in_ok-counts.ensures ∙ length-replicate (c.len-count.result + 1) 0 ∙ ap (λ n. n + 1) c.len-count.ensures.len;
  state =
      subst (λ l. State c.args.shapes.now (is_small c.args.text.now c.args.tokens.now) c.args.derivation.now c.in_ok-counts.counts.items c.len-count.result l) (sym c.new-nodes.ensures.items)
      (subst (λ l. State c.args.shapes.now (is_small c.args.text.now c.args.tokens.now) c.args.derivation.now l c.len-count.result []) (sym c.in_ok-counts.ensures)
      (begin c.args.shapes.now (is_small c.args.text.now c.args.tokens.now) c.args.derivation.now c.len-count.result c.len-count.ensures.len));
}

pub put_turns-requires-clause-body : goal.put_turns-requires-clause-body
put_turns-requires-clause-body c =
    subst (λ l. IsBody c.args.shapes.now (is_small c.args.text.now c.args.tokens.now) c.args.derivation.now l c.loop-left.left c.step-step.result.next c.loop-left.nodes.items) (sym c.deref.ensures.value)
    (the_body c.args.shapes.now (is_small c.args.text.now c.args.tokens.now) c.args.derivation.now c.loop-left.counts.items c.loop-left.nodes.items c.loop-left.left (c.loop-left.left - 1) (at_is c.loop-left.left c.loop-left-test.true) c.loop-left.invariant.state (top_of c.args.derivation.now c.len-count.ensures.spelled.0 c.len-count.ensures.spelled.1 (c.loop-left.left - 1) (below_all c.loop-left.left (length c.args.derivation.now) c.loop-left-test.true c.loop-left.invariant.within)) c.step-step.result c.step-step.ensures.step)

pub put_node-requires : goal.put_node-requires
put_node-requires c =
    below_is c.args.shapes.now (is_small c.args.text.now c.args.tokens.now) c.args.derivation.now c.loop-left.counts.items c.loop-left.nodes.items c.loop-left.left (c.loop-left.left - 1) (at_is c.loop-left.left c.loop-left-test.true) c.loop-left.invariant.state (top_of c.args.derivation.now c.len-count.ensures.spelled.0 c.len-count.ensures.spelled.1 (c.loop-left.left - 1) (below_all c.loop-left.left (length c.args.derivation.now) c.loop-left-test.true c.loop-left.invariant.within)) c.step-step.result c.step-step.ensures.step
    c.put_turns.new.nodes.items c.count_at.result
    (body_is c.args.shapes.now (is_small c.args.text.now c.args.tokens.now) c.args.derivation.now c.loop-left.counts.items c.loop-left.nodes.items c.loop-left.left (c.loop-left.left - 1) (at_is c.loop-left.left c.loop-left-test.true) c.loop-left.invariant.state (top_of c.args.derivation.now c.len-count.ensures.spelled.0 c.len-count.ensures.spelled.1 (c.loop-left.left - 1) (below_all c.loop-left.left (length c.args.derivation.now) c.loop-left-test.true c.loop-left.invariant.within)) c.step-step.result c.step-step.ensures.step
    c.put_turns.new.nodes.items (subst (λ l. (b : IsBody c.args.shapes.now (is_small c.args.text.now c.args.tokens.now) c.args.derivation.now l c.loop-left.left c.step-step.result.next c.loop-left.nodes.items) →
    reverse c.put_turns.new.nodes.items ≡ turns c.args.shapes.now (is_small c.args.text.now c.args.tokens.now) c.step-step.result.from 0 b.below ++ (raw c.args.shapes.now (is_small c.args.text.now c.args.tokens.now) b.below ++ raw c.args.shapes.now (is_small c.args.text.now c.args.tokens.now) b.after)) c.deref.ensures.value c.in_ok-put_turns.ensures))
    (ap (λ l. slice_get l c.step-step.result.next) (sym c.deref-in-loop-left.ensures.value) ∙ c.count_at.ensures)

pub loop-left-preserved : goal.loop-left-preserved
loop-left-preserved c = record {
  within = let h = c.loop-left.invariant.within in omega arith;
  len = c.set_count.ensures.len ∙ c.loop-left.invariant.len;
  state =
      after_step c.args.shapes.now (is_small c.args.text.now c.args.tokens.now) c.args.derivation.now c.loop-left.counts.items c.set_count.new.counts.items c.loop-left.nodes.items c.put_turns.new.nodes.items c.put_node.new.nodes.items
      c.loop-left.left (c.loop-left.left - 1) (at_is c.loop-left.left c.loop-left-test.true) c.loop-left.invariant.within c.loop-left.invariant.state c.step-step.result c.step-step.ensures.step
      (subst (λ l. (b : IsBody c.args.shapes.now (is_small c.args.text.now c.args.tokens.now) c.args.derivation.now l c.loop-left.left c.step-step.result.next c.loop-left.nodes.items) →
      reverse c.put_turns.new.nodes.items ≡ turns c.args.shapes.now (is_small c.args.text.now c.args.tokens.now) c.step-step.result.from 0 b.below ++ (raw c.args.shapes.now (is_small c.args.text.now c.args.tokens.now) b.below ++ raw c.args.shapes.now (is_small c.args.text.now c.args.tokens.now) b.after)) c.deref.ensures.value c.in_ok-put_turns.ensures)
      c.shape_at.result c.shape_at.ensures c.count_at.result (ap (λ l. slice_get l c.step-step.result.next) (sym c.deref-in-loop-left.ensures.value) ∙ c.count_at.ensures)
      c.in_ok-put_node.ensures
      (c.set_count.ensures.here ∙ ap Some (c.len.ensures ∙ c.put_node.new.nodes.ok.0)) c.set_count.ensures.others;
}

pub put_turns-requires-2-clause-body : goal.put_turns-requires-2-clause-body
put_turns-requires-2-clause-body c =
    subst (λ l. IsBody c.args.shapes.now (is_small c.args.text.now c.args.tokens.now) c.args.derivation.now l 0 c.len-count.result c.loop-left.nodes.items) (sym c.deref-2.ensures.value)
    (the_whole c.args.shapes.now (is_small c.args.text.now c.args.tokens.now) c.args.derivation.now c.len-count.ensures.spelled.0 c.len-count.ensures.spelled.1 c.loop-left.counts.items c.loop-left.nodes.items c.loop-left.left c.len-count.result (let h = c.loop-left-test.false in omega arith) c.len-count.ensures.len c.loop-left.invariant.state)

pub returns : goal.returns
returns c = λ d are.
    c.reverse.ensures.items ∙
    the_result c.args.shapes.now (is_small c.args.text.now c.args.tokens.now) c.args.derivation.now d are c.loop-left.counts.items c.loop-left.nodes.items c.put_turns-2.new.nodes.items c.loop-left.left c.len-count.result (let h = c.loop-left-test.false in omega arith) c.len-count.ensures.len
    c.loop-left.invariant.state
    (subst (λ l. (b : IsBody c.args.shapes.now (is_small c.args.text.now c.args.tokens.now) c.args.derivation.now l 0 c.len-count.result c.loop-left.nodes.items) →
    reverse c.put_turns-2.new.nodes.items ≡ turns c.args.shapes.now (is_small c.args.text.now c.args.tokens.now) 0 0 b.below ++ (raw c.args.shapes.now (is_small c.args.text.now c.args.tokens.now) b.below ++ raw c.args.shapes.now (is_small c.args.text.now c.args.tokens.now) b.after)) c.deref-2.ensures.value c.in_ok-put_turns-2.ensures)
