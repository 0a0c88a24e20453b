use Rattle.std.proofs.Common.{◌≡◌, ℕ, ◌<◌, ◌-◌, ◌∙◌, sym, subst, refl, length, arith, true, List, Bool}
use Rattle.pj_peg_grammar.specs.Analysis.{is_set}
use Rattle.pj_peg_grammar.specs.Graph.{IsIn, calls_of}
use Rattle.pj_peg_grammar.proofs.Sets.{bit_at}
use Rattle.pj_peg_grammar.proofs.Marking.{calls_at}
use Rattle.pj_peg_grammar.proofs.Orders.{AllPlaced, turn_places}
use Rattle.pj_peg_grammar.proofs.graph.place_further.Goals as goal

pub loop-rule-preserved : goal.loop-rule-preserved
loop-rule-preserved c =
    let within = c.loop-rule.invariant.within in
    let count = c.loop-rule.invariant.placing.count in
    let some = c.loop-rule-test.true in
    let lt : c.loop-rule.rule - 1 < length c.args.graph.now = omega arith in
    let placed_lt : c.loop-rule.rule - 1 < length c.loop-rule.placed.items = omega arith in
    let calls : c.deref.result.now ≡ calls_of c.args.graph.now (c.loop-rule.rule - 1) = c.deref.ensures.value ∙ sym (calls_at c.args.graph.now (c.loop-rule.rule - 1) c.index-graph-rule.result lt c.index-graph-rule.is) in
    let all : AllPlaced c.args.graph.now c.loop-rule.placed.items (c.loop-rule.rule - 1) = λ s call.
    subst (λ (l : List Bool). is_set l s ≡ true) c.deref-in-loop-rule.ensures.value
    (c.are_placed.ensures.0 c.if-not-are_placed.false s (subst (λ (l : List ℕ). IsIn l s) (sym calls) call)) in
    turn_places c.args.graph.now c.args.placed.now.items c.loop-rule.order.items c.push.new.self.items c.loop-rule.placed.items _ c.loop-rule.added c.loop-rule.rule (c.loop-rule.rule - 1) some
    c.loop-rule.invariant refl (bit_at _ _ _ placed_lt c.index.ensures ∙ c.if-index.false) all c.in_ok-push.ensures.items refl
