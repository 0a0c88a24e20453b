use Rattle.std.proofs.Common.{Err, ap}
use Rattle.pj_outside.specs.declared.refused.Refused.{Refused}
use Rattle.pj_check.proofs.DoorCounting.{unopened_faults, unopened_is, unopened_steady}
use Rattle.pj_check.proofs.classes.open_door.Goals as goal

pub returns-in-Err-clause-refused : goal.returns-in-Err-clause-refused
returns-in-Err-clause-refused g c = unopened_is c.in-Err.refused c.after_opening.result c.after_opening.ensures

pub returns-in-Err-clause-class_faults : goal.returns-in-Err-clause-class_faults
returns-in-Err-clause-class_faults g c = unopened_faults g.row.C-Door.Denot c.in-Err.refused c.after_opening.result _ _ c.after_opening.ensures c.in-Err.ensures.counts_faults

pub returns-in-Err-clause-steady : goal.returns-in-Err-clause-steady
returns-in-Err-clause-steady g c = λ never.
    let steady = c.in-Err.ensures.steady never in (steady.0, unopened_steady c.in-Err.refused c.after_opening.result c.after_opening.ensures (λ is. steady.1 (ap (λ (x : Refused). Err x) is)))
