use Rattle.std.proofs.Common.{refl}
use Rattle.pj_operators.proofs.Promotion.{no-bits-behind, none-behind, unknown-second, unknown-third}
use Rattle.pj_operators.proofs.laws.unknown_operands.Goals as goal

pub returns-clause-unary : goal.returns-clause-unary
returns-clause-unary c = refl

pub returns-clause-steps : goal.returns-clause-steps
returns-clause-steps c = refl

pub returns-clause-shift : goal.returns-clause-shift
returns-clause-shift c = λ second. refl

pub returns-clause-left : goal.returns-clause-left
returns-clause-left c = λ second. refl

pub returns-clause-right : goal.returns-clause-right
returns-clause-right c = none-behind

pub returns-clause-left_bits : goal.returns-clause-left_bits
returns-clause-left_bits c = λ second. refl

pub returns-clause-right_bits : goal.returns-clause-right_bits
returns-clause-right_bits c = no-bits-behind

pub returns-clause-second : goal.returns-clause-second
returns-clause-second c = unknown-second

pub returns-clause-third : goal.returns-clause-third
returns-clause-third c = unknown-third
