use Rattle.std.proofs.Common.{rules, ap}
use Rattle.std.specs.Prelude.{Ok}
use Rattle.pj_names.proofs.AskingLaws.{asks-refused, asks-return, asks-stop, asks-then}
use Rattle.pj_file_oracle.proofs.anonymous.by_type.Goals as goal

pub returns-in_err-is_interface : goal.returns-in_err-is_interface
returns-in_err-is_interface g c = asks-refused _ c.in_err-is_interface.ensures (search rules)

pub returns-in_err-types : goal.returns-in_err-types
returns-in_err-types g c = asks-then _ c.in_ok-is_interface.ensures (asks-stop (search rules))

pub returns : goal.returns
returns g c = asks-then _ c.in_ok-is_interface.ensures (asks-return (ap (λ types. Ok types) c.in_ok-types.ensures))
