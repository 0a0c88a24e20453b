use Rattle.std.proofs.Common.{false}
use Rattle.pj_xreadings.proofs.Least.{nesting_least}
use Rattle.pj_xreadings.proofs.laws.nesting_is_least.Goals as goal

pub returns : goal.returns
returns c = λ t. nesting_least t false
