use Rattle.std.proofs.Common.{rules, ap}
use Rattle.std.specs.Prelude.{Ok}
use Rattle.pj_names.proofs.AskingLaws.{asks-refused, asks-return, asks-stop, asks-then}
use Rattle.pj_calls.proofs.results.chosen_result.Goals as goal

pub returns-in_err-chosen : goal.returns-in_err-chosen
returns-in_err-chosen g c = asks-refused _ c.in_err-chosen.ensures (search rules)

pub returns-in_err-ty : goal.returns-in_err-ty
returns-in_err-ty g c = asks-then _ c.in_ok-chosen.ensures (asks-stop (search rules))

pub returns : goal.returns
returns g c = asks-then _ c.in_ok-chosen.ensures (asks-return (ap (λ ty. Ok ty) c.in_ok-ty.ensures))
