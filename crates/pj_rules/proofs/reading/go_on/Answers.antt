use Rattle.std.proofs.Common.{None, Some, sym, subst}
use Rattle.pj_rules.specs.Refusals.{IfFault}
use Rattle.pj_rules.specs.States.{IsFaultOf, IsFaultOfTop, IsTaking, Opens, TakesOrOpens}
use Rattle.pj_rules.specs.declared.open_file.OpenFile.{OpenFile}
use Rattle.pj_rules.proofs.Refusing.{fault_weaker, leaves}
use Rattle.pj_rules.proofs.Turns.{goes_on, stops}
use Rattle.pj_rules.proofs.reading.go_on.Goals as goal

pub returns-in_err-take_part-clause-fault : goal.returns-in_err-take_part-clause-fault
returns-in_err-take_part-clause-fault g c = λ files top told taking.
    let file = c.args.file in
    let known = c.args.known.now in
    let refused = c.in_err-take_part.field-0.0 in
    leaves (IfFault (IsFaultOfTop files top)) c.from_residual.result refused c.from_residual.ensures.1
    (fault_weaker refused (IsFaultOf files known file c.args.part) (IsFaultOfTop files top) (λ fault h. stops files top known c.args.below file c.args.part fault taking h)
    (c.in_err-take_part.ensures.fault files told taking.known_files))

pub returns-in-None-clause-next : goal.returns-in-None-clause-next
returns-in-None-clause-next g c = λ files top told taking.
    let known = c.args.known.now in
    let takes : TakesOrOpens files known c.args.file c.args.part c.take_part.new.file None = rw (c.in-None.is) at (c.in_ok-take_part.ensures.taken files told taking.known_files) in
    goes_on files top known c.args.below c.args.file c.args.part c.take_part.new.file taking takes

pub returns-in_ok-next-in-Some-clause-next : goal.returns-in_ok-next-in-Some-clause-next
returns-in_ok-next-in-Some-clause-next g c = λ files top told taking.
    let known = c.args.known.now in
    let opens : TakesOrOpens files known c.args.file c.args.part c.take_part.new.file (Some c.in-Some.opening) = rw (c.in-Some.is) at (c.in_ok-take_part.ensures.taken files told taking.known_files) in
    c.in_ok-next-in-Some.ensures files top c.args.part
    (subst (λ (file : OpenFile). IsTaking files top known c.args.below file c.args.part) (sym opens.0) taking)
    (subst (λ (file : OpenFile). Opens files known file c.args.part c.in-Some.opening) (sym opens.0) opens.1)
