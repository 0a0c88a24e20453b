use Rattle.std.proofs.Common.{rules}
use Rattle.pj_names.proofs.AskingLaws.{asks-stop}
use Rattle.pj_operators.proofs.conditional.conditional_type.Goals as goal

pub returns-in_err-told : goal.returns-in_err-told
returns-in_err-told g c = asks-stop (search rules)
