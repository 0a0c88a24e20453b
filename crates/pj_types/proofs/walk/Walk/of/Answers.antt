use Rattle.pj_types.proofs.Steps.{visited-none}
use Rattle.pj_types.proofs.walk.Walk.of.Goals as goal

pub invariant_of-result : goal.invariant_of-result
invariant_of-result c = visited-none c.new-2.result c.new.result c.new-2.ensures c.new.ensures
