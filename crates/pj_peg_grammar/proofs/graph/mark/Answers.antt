use Rattle.std.proofs.Common.{◌<◌, ◌∙◌, get_or, length, refl, arith}
use Rattle.pj_peg_grammar.proofs.Sets.{bit_at}
use Rattle.pj_peg_grammar.proofs.Marking.{marking_adds}
use Rattle.pj_peg_grammar.proofs.graph.mark.Goals as goal

pub loop-rule-preserved : goal.loop-rule-preserved
loop-rule-preserved c =
    let lt : get_or c.args.calls.now c.loop-rule.rule-index 0 < length c.loop-rule.seen.items =
    omega (arith, c.if-rule-len.false, c.len.ensures, c.loop-rule.seen.ok.0) in
    marking_adds _ _ _ _ _ _ _ _ _ c.loop-rule.invariant c.loop-rule-test.true refl lt (bit_at _ _ _ lt c.index.ensures ∙ c.if-index.false) c.in_ok-push.ensures.items refl
