use Rattle.std.proofs.Common.{sym, ap, ◌∙◌}
use Rattle.pj_literals.specs.TextBlock.{without_trailing}
use Rattle.pj_literals.proofs.BlockLaws.{trailing_white, trailing_other}
use Rattle.pj_literals.proofs.block.stripped.Goals as goal

pub loop-last-preserved : goal.loop-last-preserved
loop-last-preserved c =
    c.loop-last.invariant ∙ ap without_trailing c.in-Some.ensures.cases.0
    ∙ trailing_white c.in-Some.front.now c.in-Some.last.now (sym c.is_white_space.ensures ∙ c.if-not-is_white_space.false)

pub returns-then-not-is_white_space : goal.returns-then-not-is_white_space
returns-then-not-is_white_space c =
    let last = c.in-Some.ensures.cases.0 in
    sym (c.loop-last.invariant ∙ ap without_trailing last ∙ trailing_other c.in-Some.front.now c.in-Some.last.now (sym c.is_white_space.ensures ∙ c.if-not-is_white_space.true) ∙ sym last)
