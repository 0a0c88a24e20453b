use Rattle.pj_operators.proofs.Promotion.{no-sum, no-sum-behind}
use Rattle.pj_operators.proofs.laws.unknown_sums.Goals as goal

pub returns-clause-left : goal.returns-clause-left
returns-clause-left c = no-sum

pub returns-clause-right : goal.returns-clause-right
returns-clause-right c = no-sum-behind
