use Rattle.pj_xtokens.specs.Gaps.{here}
use Rattle.std.proofs.Common.{refl}
use Rattle.pj_xtokens.proofs.gap.skip_gap.Goals as goal

pub returns-clause-past : goal.returns-clause-past
returns-clause-past c = c.loop-behind.invariant.past _ (here _ _ refl)
