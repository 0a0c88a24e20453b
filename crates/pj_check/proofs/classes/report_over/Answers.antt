use Rattle.pj_check.proofs.DoorCounting.{unasked_faults, unasked_is}
use Rattle.pj_check.proofs.classes.report_over.Goals as goal

pub returns-in-Err-clause-refused : goal.returns-in-Err-clause-refused
returns-in-Err-clause-refused g c = unasked_is c.in-Err.fault c.after_asking.result c.after_asking.ensures

pub returns-in-Err-clause-faults : goal.returns-in-Err-clause-faults
returns-in-Err-clause-faults g c = unasked_faults c.in-Err.fault c.after_asking.result _ _ c.after_asking.ensures c.in-Err.ensures.faults
