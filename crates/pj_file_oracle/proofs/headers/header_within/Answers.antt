use Rattle.std.proofs.Common.{rules, ap}
use Rattle.std.specs.Prelude.{Ok}
use Rattle.pj_names.proofs.AskingLaws.{asks-refused, asks-return, asks-stop, asks-then}
use Rattle.pj_file_oracle.proofs.headers.header_within.Goals as goal

pub returns-in_err-types : goal.returns-in_err-types
returns-in_err-types g c = asks-then _ c.in_ok-parameters.ensures (asks-refused _ c.in_err-types.ensures (search rules))

pub returns-in_err-text : goal.returns-in_err-text
returns-in_err-text g c = asks-then _ c.in_ok-parameters.ensures (asks-then _ c.in_ok-types.ensures (asks-stop (search rules)))

pub returns : goal.returns
returns g c = asks-then _ c.in_ok-parameters.ensures (asks-then _ c.in_ok-types.ensures (asks-return (ap (λ text. Ok text) c.in_ok-text.ensures)))
