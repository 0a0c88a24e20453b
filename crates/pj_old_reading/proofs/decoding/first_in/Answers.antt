use Rattle.pj_old_reading.proofs.AnyDecoded.{old_decoded, old_refused}
use Rattle.pj_old_reading.proofs.decoding.first_in.Goals as goal

pub returns-in-Ok : goal.returns-in-Ok
returns-in-Ok c = old_decoded c.args.bytes.now c.args.content.now c.in-Ok.old c.requires.is_sealed c.requires.content c.requires.version c.in-Ok.ensures

pub returns-in-Err : goal.returns-in-Err
returns-in-Err c = old_refused c.args.bytes.now c.args.content.now c.in-Err.refused c.requires.is_sealed c.requires.content c.requires.version c.in-Err.ensures
