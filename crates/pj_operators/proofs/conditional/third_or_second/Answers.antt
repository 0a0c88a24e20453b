use Rattle.std.proofs.Common.{rules}
use Rattle.pj_names.proofs.AskingLaws.{asks-refused}
use Rattle.pj_operators.proofs.conditional.third_or_second.Goals as goal

pub returns-in_err-is_second : goal.returns-in_err-is_second
returns-in_err-is_second g c = rw c.if-is_upper.false (asks-refused _ c.in_err-is_second.ensures (search rules))
