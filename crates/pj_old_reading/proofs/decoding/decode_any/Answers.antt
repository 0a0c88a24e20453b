use Rattle.pj_old_reading.proofs.AnyDecoded.{not_decoded}
use Rattle.pj_old_reading.proofs.decoding.decode_any.Goals as goal

pub returns-in-Err : goal.returns-in-Err
returns-in-Err c = not_decoded c.args.bytes.now _ c.in-Err.ensures
