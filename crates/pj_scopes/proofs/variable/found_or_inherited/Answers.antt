use Rattle.std.proofs.Common.{refl}
use Rattle.pj_names.proofs.AskingLaws.{asks-return, asks-then}
use Rattle.pj_scopes.proofs.variable.found_or_inherited.Goals as goal

pub returns-in-Some-clause-asks : goal.returns-in-Some-clause-asks
returns-in-Some-clause-asks g c =
    let found = rw c.in-Some.is at c.in_ok-hit.ensures in
    asks-then _ found (asks-return refl)

pub returns-in-None-clause-asks : goal.returns-in-None-clause-asks
returns-in-None-clause-asks g c =
    let missed = rw c.in-None.is at c.in_ok-hit.ensures in
    asks-then _ missed c.declared_or_imported.ensures.asks
