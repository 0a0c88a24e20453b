use Rattle.std.proofs.Common.{rules, ap}
use Rattle.std.specs.Prelude.{Ok}
use Rattle.pj_names.proofs.AskingLaws.{asks-refused, asks-return, asks-then}
use Rattle.pj_scopes.specs.Searched.{declared_or}
use Rattle.pj_scopes.proofs.Turns.{asks-as}
use Rattle.pj_scopes.proofs.variable.declared_or_imported.Goals as goal

pub returns-in_err-field-clause-asks : goal.returns-in_err-field-clause-asks
returns-in_err-field-clause-asks g c =
    asks-as (ap (λ found. declared_or c.args.file.now c.args.name.now found) c.in_default.is) (asks-refused _ c.in_err-field.ensures (search rules))

pub returns-clause-asks : goal.returns-clause-asks
returns-clause-asks g c =
    asks-as (ap (λ found. declared_or c.args.file.now c.args.name.now found) c.in_default.is)
    (asks-then _ c.in_ok-field.ensures (asks-return (ap (λ found. Ok found) c.of_field.ensures.value)))
