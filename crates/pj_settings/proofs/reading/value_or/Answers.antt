use Rattle.std.proofs.Common.{refl}
use Rattle.pj_settings.proofs.reading.value_or.Goals as goal

pub returns-in-Some : goal.returns-in-Some
returns-in-Some c = rw (← c.value_of.ensures, c.in-Some.is) refl

pub returns-in-None : goal.returns-in-None
returns-in-None c = rw (← c.value_of.ensures, c.in-None.is) refl
