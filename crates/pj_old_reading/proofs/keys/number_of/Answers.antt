use Rattle.pj_old_reading.proofs.Numbers.{the_number, too_large}
use Rattle.pj_old_reading.proofs.keys.number_of.Goals as goal

pub returns-in-Ok-clause-value : goal.returns-in-Ok-clause-value
returns-in-Ok-clause-value c = the_number c.args.text.now c.in-Ok.number c.parse.result c.in-Ok.is c.parse.ensures.value.0 c.requires

pub returns-in-Err-clause-value : goal.returns-in-Err-clause-value
returns-in-Err-clause-value c = too_large c.args.text.now c.in-Err.field-0 c.in-Err.ensures.value.0 c.requires
