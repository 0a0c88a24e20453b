use Rattle.std.proofs.Common.{rules, refl}
use Rattle.pj_names.proofs.AskingLaws.{asks-refused, asks-return, asks-then}
use Rattle.pj_outer_names.proofs.imports.in_package.Goals as goal

pub returns-in_err-name : goal.returns-in_err-name
returns-in_err-name g c =
    let asked = rw (c.as_str.ensures, c.in_ok-text.ensures) at c.in_err-name.ensures in
    asks-refused _ asked (search rules)

pub returns-in-Some : goal.returns-in-Some
returns-in-Some g c =
    let found = rw (c.as_str.ensures, c.in_ok-text.ensures, c.in-Some.is) at c.in_ok-name.ensures in
    asks-then _ found (asks-return refl)

pub returns : goal.returns
returns g c =
    let missed = rw (c.as_str.ensures, c.in_ok-text.ensures, c.in-None.is) at c.in_ok-name.ensures in
    asks-then _ missed c.on_demand.ensures
