use Rattle.std.proofs.Common.{sym}
use Rattle.pj_xtokens.specs.Gaps.{white}
use Rattle.std.proofs.Common.{◌∙◌}
use Rattle.pj_xtokens.proofs.Gapped.{comment_passed}
use Rattle.pj_xtokens.proofs.gap.past_one.Goals as goal

pub returns-then-is_white-clause-past : goal.returns-then-is_white-clause-past
returns-then-is_white-clause-past c = λ body p. white _ _ _ body c.in_ok-c.ensures.chars (sym c.is_white.ensures ∙ c.if-is_white.true) p

pub returns-clause-past : goal.returns-clause-past
returns-clause-past c =
    comment_passed _ _ _ _ c.in_ok-c.ensures.chars (sym c.is_white.ensures ∙ c.if-is_white.false) c.in_ok-inside.ensures.split _ c.past_comment.ensures.value
