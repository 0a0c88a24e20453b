use Rattle.pj_reuse.proofs.Equal.{same_equal}
use Rattle.pj_reuse.proofs.laws.same_is_equal.Goals as goal

pub returns : goal.returns
returns c = same_equal
