use Rattle.pj_operators.proofs.Promotion.{bits-comm, both-alone, both-comm, sum-comm}
use Rattle.pj_operators.proofs.laws.promotion_is_commutative.Goals as goal

pub returns-clause-promotion : goal.returns-clause-promotion
returns-clause-promotion c = both-comm

pub returns-clause-alone : goal.returns-clause-alone
returns-clause-alone c = both-alone

pub returns-clause-sums : goal.returns-clause-sums
returns-clause-sums c = sum-comm

pub returns-clause-bits : goal.returns-clause-bits
returns-clause-bits c = bits-comm
