use Rattle.pj_old_reading.proofs.AnyDecoded.{new_decoded, new_refused}
use Rattle.pj_old_reading.proofs.decoding.second_in.Goals as goal

pub returns-in-Ok : goal.returns-in-Ok
returns-in-Ok c = new_decoded c.args.bytes.now c.in-Ok.new c.requires.version c.in-Ok.ensures

pub returns-in-Err : goal.returns-in-Err
returns-in-Err c = new_refused c.args.bytes.now c.in-Err.refused c.requires.version c.in-Err.ensures
