use Rattle.pj_names.proofs.AskingLaws.{asks-then}
use Rattle.pj_overload.proofs.conversions.fits_loosely.Goals as goal

pub returns : goal.returns
returns g c =
    let asked = rw c.if-is_under.false at c.in_ok-is_under.ensures in
    asks-then _ asked c.fits_converted.ensures
