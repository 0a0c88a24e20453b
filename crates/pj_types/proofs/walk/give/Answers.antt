use Rattle.pj_types.proofs.Steps.{popped}
use Rattle.pj_types.proofs.walk.give.Goals as goal

pub returns-in-Err-clause-same_given : goal.returns-in-Err-clause-same_given
returns-in-Err-clause-same_given c = popped _ _ _ _ c.pop.result c.in_ok-push.ensures.ok c.pop.ensures
