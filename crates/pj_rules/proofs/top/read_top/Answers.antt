use Rattle.std.proofs.Common.{◌≡◌, ◌∙◌, true, false, Some, None, [], ◌∷◌}
use Rattle.std.proofs.lemmas.Result.{IfErr-weaker, IfOk-weaker}
use Rattle.pj_outside.specs.Files.{Files}
use Rattle.pj_rule_texts.specs.Files.{GivesRead, is_there}
use Rattle.pj_rules.specs.Finding.{IsFaultAt}
use Rattle.pj_rules.specs.Load.{IsTop, IsTopFault}
use Rattle.pj_rules.specs.Refusals.{IfFault, IfOwn}
use Rattle.pj_rules.specs.States.{top_rules}
use Rattle.pj_rules.specs.declared.fault.RuleFault.{RuleFault}
use Rattle.pj_rules.specs.declared.top.Top.{Top}
use Rattle.pj_rules.proofs.Refusing.{fault_weaker, leaves, own_fault, own_result, own_result_steady}
use Rattle.pj_rules.proofs.top.read_top.Goals as goal

pub returns-in_err-written-clause-fault : goal.returns-in_err-written-clause-fault
returns-in_err-written-clause-fault g c = λ files told are_read.
    let path = c.args.path.now in
    let refused = c.in_err-written.field-0.0 in
    leaves (IfFault (IsTopFault files path)) c.from_residual.result refused c.from_residual.ensures.1
    (fault_weaker refused (IsFaultAt files path) (IsTopFault files path) (λ fault h. IsTopFault.file (h true (path ∷ []))) (c.in_err-written.ensures.fault files told))

pub returns-in-Some-clause-top : goal.returns-in-Some-clause-top
returns-in-Some-clause-top g c = λ files told are_read.
    let read : GivesRead files c.args.path.now (Some c.in-Some.written) = rw (c.in-Some.is) at (c.in_ok-written.ensures.written files told) in
    c.read_written.ensures.top files (c.in_ok-written.ensures.same_files ∙ told) are_read read

pub returns-in-Some-clause-fault : goal.returns-in-Some-clause-fault
returns-in-Some-clause-fault g c = λ files told are_read.
    let read : GivesRead files c.args.path.now (Some c.in-Some.written) = rw (c.in-Some.is) at (c.in_ok-written.ensures.written files told) in
    c.read_written.ensures.fault files (c.in_ok-written.ensures.same_files ∙ told) are_read read

pub returns-in-None-clause-counts_faults : goal.returns-in-None-clause-counts_faults
returns-in-None-clause-counts_faults g c = own_result c.absent_top.result _ _ _ c.in_ok-written.ensures.counts_faults c.absent_top.ensures.fault

pub returns-in-None-clause-top : goal.returns-in-None-clause-top
returns-in-None-clause-top g c = λ files told are_read.
    let gone : GivesRead files c.args.path.now None = rw (c.in-None.is) at (c.in_ok-written.ensures.written files told) in
    IfOk-weaker c.absent_top.result (λ (top : Top). (files : Files) → is_there files c.args.path.now ≡ false → IsTop files c.args.path.now (top_rules top)) _
    (λ top h. (are_read, h files gone)) c.absent_top.ensures.top

pub returns-in-None-clause-fault : goal.returns-in-None-clause-fault
returns-in-None-clause-fault g c = λ files told are_read.
    let path = c.args.path.now in
    let gone : GivesRead files path None = rw (c.in-None.is) at (c.in_ok-written.ensures.written files told) in
    let own : RuleFault → Type 0 = λ fault. (files : Files) → is_there files path ≡ false → IsTopFault files path fault in
    IfErr-weaker c.absent_top.result (IfOwn own) (IfFault (IsTopFault files path)) (λ refused h. own_fault refused own (IsTopFault files path) (λ fault f. f files gone) h)
    c.absent_top.ensures.fault

pub returns-in-None-clause-steady : goal.returns-in-None-clause-steady
returns-in-None-clause-steady g c = λ never. ((c.in_ok-written.ensures.steady never).0, own_result_steady c.absent_top.result _ c.absent_top.ensures.fault)
