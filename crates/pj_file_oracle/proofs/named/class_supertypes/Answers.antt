use Rattle.std.proofs.Common.{rules, ap}
use Rattle.std.specs.Prelude.{Ok}
use Rattle.pj_names.proofs.AskingLaws.{asks-refused, asks-return, asks-stop, asks-then}
use Rattle.pj_file_oracle.proofs.named.class_supertypes.Goals as goal

pub returns-in_err-interfaces : goal.returns-in_err-interfaces
returns-in_err-interfaces g c = asks-then _ c.in_ok-above.ensures (asks-refused _ c.in_err-interfaces.ensures (search rules))

pub returns-in_err-types : goal.returns-in_err-types
returns-in_err-types g c = asks-then _ c.in_ok-above.ensures (asks-then _ c.in_ok-interfaces.ensures (asks-stop (search rules)))

pub returns : goal.returns
returns g c = asks-then _ c.in_ok-above.ensures (asks-then _ c.in_ok-interfaces.ensures (asks-return (ap (λ types. Ok types) c.in_ok-types.ensures)))
