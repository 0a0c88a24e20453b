use Rattle.std.proofs.Common.{◌+◌, ◌-◌, ◌∷◌, ◌++◌, [], refl, sym, ◌∙◌, ap, arith}
use Rattle.std.specs.Prelude.{◌==◌, nat_lt}
use Rattle.pj_shape.specs.Words.{is_small}
use Rattle.pj_shape.proofs.PutTurns.{begin, finish, at_within, here_within, next_within, next_after, len_is, pass_on, turn_on}
use Rattle.pj_shape.proofs.turns.put_turns.Goals as goal

pub loop-at-init : goal.loop-at-init
loop-at-init c = record { from = omega arith; each = λ b. begin c.args.shapes.now (is_small c.args.text.now c.args.tokens.now) c.args.derivation.now c.args.counts.now c.args.body.start c.args.body.first c.args.body.end c.args.nodes.now.items b }

pub step-step-requires : goal.step-step-requires
step-step-requires c = record { there = at_within c.args.shapes.now (is_small c.args.text.now c.args.tokens.now) c.args.derivation.now c.args.counts.now c.args.body.start c.args.body.first c.args.body.end c.args.nodes.now.items c.requires.body c.loop-at.at c.loop-at.nodes.items c.loop-at.invariant.from c.loop-at-test.true (c.loop-at.invariant.each c.requires.body) }

pub count_at-requires : goal.count_at-requires
count_at-requires c = here_within c.args.shapes.now (is_small c.args.text.now c.args.tokens.now) c.args.derivation.now c.args.counts.now c.args.body.start c.args.body.first c.args.body.end c.args.nodes.now.items c.requires.body c.loop-at.at c.loop-at.nodes.items c.loop-at.invariant.from c.loop-at-test.true (c.loop-at.invariant.each c.requires.body) c.step-step.result c.step-step.ensures.step

pub count_at-requires-in-Turn : goal.count_at-requires-in-Turn
count_at-requires-in-Turn c = next_within c.args.shapes.now (is_small c.args.text.now c.args.tokens.now) c.args.derivation.now c.args.counts.now c.args.body.start c.args.body.first c.args.body.end c.args.nodes.now.items c.requires.body c.loop-at.at c.loop-at.nodes.items c.loop-at.invariant.from c.loop-at-test.true (c.loop-at.invariant.each c.requires.body) c.step-step.result c.step-step.ensures.step

pub overflow_sub-size : goal.overflow_sub-size
overflow_sub-size c =
    let h = len_is c.args.shapes.now (is_small c.args.text.now c.args.tokens.now) c.args.derivation.now c.args.counts.now c.args.body.start c.args.body.first c.args.body.end c.args.nodes.now.items c.requires.body c.loop-at.at c.loop-at.nodes.items c.loop-at.invariant.from c.loop-at-test.true (c.loop-at.invariant.each c.requires.body) c.step-step.result c.step-step.ensures.step c.len-in-Turn.result c.count_at-in-Turn.result (c.len-in-Turn.ensures ∙ c.loop-at.nodes.ok.0) c.count_at-in-Turn.ensures in
    omega arith

pub loop-at-preserved-in_ok-push : goal.loop-at-preserved-in_ok-push
loop-at-preserved-in_ok-push c =
    let h = next_after c.args.shapes.now (is_small c.args.text.now c.args.tokens.now) c.args.derivation.now c.args.counts.now c.args.body.start c.args.body.first c.args.body.end c.args.nodes.now.items c.requires.body c.loop-at.at c.loop-at.nodes.items c.loop-at.invariant.from c.loop-at-test.true (c.loop-at.invariant.each c.requires.body) c.step-step.result c.step-step.ensures.step in
    let from = c.loop-at.invariant.from in
    record {
      from = omega (arith, h.0, from);
      each = λ b. turn_on c.args.shapes.now (is_small c.args.text.now c.args.tokens.now) c.args.derivation.now c.args.counts.now c.args.body.start c.args.body.first c.args.body.end c.args.nodes.now.items b c.loop-at.at c.loop-at.nodes.items c.loop-at.invariant.from c.loop-at-test.true (c.loop-at.invariant.each b) c.step-step.result c.step-step.ensures.step
          c.act.result c.shape_at.result c.len.result c.count_at.result (c.len.result == c.count_at.result) (nat_lt c.step-step.result.next c.args.body.end) c.leads_at-leads.result (c.len.ensures ∙ c.loop-at.nodes.ok.0) c.count_at.ensures refl refl c.leads_at-leads.ensures c.shape_at.ensures c.act.ensures
          c.in-Turn.kind c.push.new.self.items c.count_at-in-Turn.result c.in-Turn.is c.count_at-in-Turn.ensures
          (c.in_ok-push.ensures.items ∙ ap (λ z. c.loop-at.nodes.items ++ record { kind = c.in-Turn.kind; from = c.args.body.start; to = c.step-step.result.to; size = z - c.count_at-in-Turn.result + 1 } ∷ [])
          (c.len-in-Turn.ensures ∙ sym c.len.ensures));
    }

pub loop-at-preserved : goal.loop-at-preserved
loop-at-preserved c =
    let h = next_after c.args.shapes.now (is_small c.args.text.now c.args.tokens.now) c.args.derivation.now c.args.counts.now c.args.body.start c.args.body.first c.args.body.end c.args.nodes.now.items c.requires.body c.loop-at.at c.loop-at.nodes.items c.loop-at.invariant.from c.loop-at-test.true (c.loop-at.invariant.each c.requires.body) c.step-step.result c.step-step.ensures.step in
    let from = c.loop-at.invariant.from in
    record {
      from = omega (arith, h.0, from);
      each = λ b. pass_on c.args.shapes.now (is_small c.args.text.now c.args.tokens.now) c.args.derivation.now c.args.counts.now c.args.body.start c.args.body.first c.args.body.end c.args.nodes.now.items b c.loop-at.at c.loop-at.nodes.items c.loop-at.invariant.from c.loop-at-test.true (c.loop-at.invariant.each b) c.step-step.result c.step-step.ensures.step
          c.act.result c.shape_at.result c.len.result c.count_at.result (c.len.result == c.count_at.result) (nat_lt c.step-step.result.next c.args.body.end) c.leads_at-leads.result (c.len.ensures ∙ c.loop-at.nodes.ok.0) c.count_at.ensures refl refl c.leads_at-leads.ensures c.shape_at.ensures c.act.ensures c.in_default.not-Turn;
    }

pub returns : goal.returns
returns c = λ b. finish c.args.shapes.now (is_small c.args.text.now c.args.tokens.now) c.args.derivation.now c.args.counts.now c.args.body.start c.args.body.first c.args.body.end c.args.nodes.now.items b c.loop-at.at c.loop-at.nodes.items (c.loop-at.invariant.each b) c.loop-at-test.false
