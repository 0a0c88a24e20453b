use Rattle.pj_format.proofs.Spelling.{read_means}
use Rattle.pj_old_reading.specs.Spelled.{old_stored}
use Rattle.pj_old_reading.proofs.decoding.old_in.Goals as goal

pub returns-in-Ok : goal.returns-in-Ok
returns-in-Ok c = read_means 1 old_stored c.args.content.now _ c.in-Ok.ensures

pub returns-in-Err-Fault : goal.returns-in-Err-Fault
returns-in-Err-Fault c =
    let e = rw c.in-Err-Fault.field-0-is at c.in-Err-Fault.ensures in (_, read_means 1 old_stored c.args.content.now _ e)
