use Rattle.std.proofs.Common.{rules}
use Rattle.pj_names.proofs.AskingLaws.{asks-refused}
use Rattle.pj_file_oracle.proofs.members.method_alone.Goals as goal

pub returns-in_err-method : goal.returns-in_err-method
returns-in_err-method g c = asks-refused _ c.in_err-method.ensures (search rules)
