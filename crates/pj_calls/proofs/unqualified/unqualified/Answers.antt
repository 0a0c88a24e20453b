use Rattle.std.proofs.Common.{refl}
use Rattle.pj_names.proofs.AskingLaws.{asks-return, asks-then}
use Rattle.pj_calls.proofs.unqualified.unqualified.Goals as goal

pub returns-in-Some : goal.returns-in-Some
returns-in-Some g c =
    let found = rw c.in-Some.is at c.in_ok-hit.ensures in
    asks-then _ found (asks-return refl)

pub returns-in-None : goal.returns-in-None
returns-in-None g c =
    let missed = rw c.in-None.is at c.in_ok-hit.ensures in
    asks-then _ missed c.imported.ensures
