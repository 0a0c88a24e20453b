use Rattle.pj_rules.specs.Load.{IsTopFault}
use Rattle.pj_rules.specs.Refusals.{IfFault}
use Rattle.pj_rules.specs.States.{IsFaultOfTop}
use Rattle.pj_rules.proofs.Refusing.{fault_weaker, leaves}
use Rattle.pj_rules.proofs.top.read_written.Goals as goal

pub returns-in_err-file-clause-fault : goal.returns-in_err-file-clause-fault
returns-in_err-file-clause-fault g c = λ files told are_read read.
    let path = c.args.path.now in
    let refused = c.in_err-file.field-0.0 in
    leaves (IfFault (IsTopFault files path)) c.from_residual-in_err-file.result refused c.from_residual-in_err-file.ensures.1
    (fault_weaker refused (IsFaultOfTop files path) (IsTopFault files path) (λ fault h. IsTopFault.file h)
    (c.in_err-file.ensures.fault files path told (c.in_ok-stack.ensures files are_read read)))

pub returns-clause-top : goal.returns-clause-top
returns-clause-top g c = λ files told are_read read.
    let path = c.args.path.now in
    let ended = c.in_ok-file.ensures.ended files path told (c.in_ok-stack.ensures files are_read read) in
    (ended.0, c.in_ok-top.ensures files path ended.1)
