use Rattle.std.proofs.Common.{rules}
use Rattle.pj_names.proofs.AskingLaws.{asks-refused, asks-then}
use Rattle.pj_operators.proofs.conditional.upper_type.Goals as goal

pub returns-in_err-is_under : goal.returns-in_err-is_under
returns-in_err-is_under g c = asks-refused _ c.in_err-is_under.ensures (search rules)

pub returns : goal.returns
returns g c = asks-then _ c.in_ok-is_under.ensures c.third_or_second.ensures
