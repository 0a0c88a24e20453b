use Rattle.std.proofs.Common.{refl}
use Rattle.pj_outside.specs.Files.{Files}
use Rattle.pj_rule_texts.specs.declared.written.Part.TheVariants as part
use Rattle.pj_rules.specs.Finding.{IsBefore, IsFound, IsFoundFault}
use Rattle.pj_rules.specs.Known.{AreRead}
use Rattle.pj_rules.specs.Referring.{IsNoForm, IsNothingFault, Leads}
use Rattle.pj_rules.specs.Refusals.{IfFault}
use Rattle.pj_rules.specs.States.{IsFaultOf}
use Rattle.pj_rules.specs.declared.fault.RuleFault.{RuleFault}
use Rattle.pj_rules.specs.declared.looking_up.Found.TheVariants.{Nowhere, Before, New}
use Rattle.pj_rules.proofs.PartFacts.{before_fault, found_fault, leads_there, no_form_fault, nothing_fault, opens, takes_nothing, took_rule}
use Rattle.pj_rules.proofs.Refusing.{fault_weaker, leaves, own_fault, own_steady, stays_steady}
use Rattle.pj_rules.proofs.reading.refer.Goals as goal

pub returns-in_err-referral-clause-fault : goal.returns-in_err-referral-clause-fault
returns-in_err-referral-clause-fault g c = λ files told known_files.
    let file = c.args.file.now in
    let known = c.args.known.now in
    let rule = c.args.rule in
    let refused = c.in_err-referral.field-0.0 in
    let is_fault : RuleFault → Type 0 = IsFaultOf files known file (part.Rule rule) in
    leaves (IfFault is_fault) c.from_residual.result refused c.from_residual.ensures.1
    (own_fault refused (IsNoForm file.path rule) is_fault (λ fault h. no_form_fault files known file rule fault h) c.in_err-referral.ensures.fault)

pub returns-in_err-look_up-clause-fault : goal.returns-in_err-look_up-clause-fault
returns-in_err-look_up-clause-fault g c = λ files told known_files.
    let file = c.args.file.now in
    let known = c.args.known.now in
    let rule = c.args.rule in
    let referral = c.in_ok-referral.referral in
    let refused = c.in_err-look_up.field-0.0 in
    let is_fault : RuleFault → Type 0 = IsFaultOf files known file (part.Rule rule) in
    leaves (IfFault is_fault) c.from_residual-in_err-look_up.result refused c.from_residual-in_err-look_up.ensures.1
    (fault_weaker refused (IsFoundFault files known file.path referral.target.file) is_fault
    (λ fault h. found_fault files known file rule referral c.in_ok-referral.ensures.value fault h) (c.in_err-look_up.ensures.fault files told known_files))

pub returns-in_err-take_nothing-in-Nowhere-clause-fault : goal.returns-in_err-take_nothing-in-Nowhere-clause-fault
returns-in_err-take_nothing-in-Nowhere-clause-fault g c = λ files told known_files.
    let file = c.args.file.now in
    let known = c.args.known.now in
    let rule = c.args.rule in
    let referral = c.in_ok-referral.referral in
    let refused = c.in_err-take_nothing-in-Nowhere.field-0.0 in
    let is_fault : RuleFault → Type 0 = IsFaultOf files known file (part.Rule rule) in
    let found : IsFound files known file.path referral.target.file Nowhere = rw (c.in-Nowhere.is) at (c.in_ok-look_up.ensures.found files told known_files) in
    leaves (IfFault is_fault) c.from_residual-in_err-take_nothing-in-Nowhere.result refused c.from_residual-in_err-take_nothing-in-Nowhere.ensures.1
    (own_fault refused (IsNothingFault file.path file.progress referral) is_fault
    (λ fault h. nothing_fault files known file rule referral c.in_ok-referral.ensures.value fault found h) c.in_err-take_nothing-in-Nowhere.ensures.fault)

pub returns-in_ok-take_nothing-in-Nowhere-clause-taken : goal.returns-in_ok-take_nothing-in-Nowhere-clause-taken
returns-in_ok-take_nothing-in-Nowhere-clause-taken g c = λ files told known_files.
    let file = c.args.file.now in
    let known = c.args.known.now in
    let referral = c.in_ok-referral.referral in
    let found : IsFound files known file.path referral.target.file Nowhere = rw (c.in-Nowhere.is) at (c.in_ok-look_up.ensures.found files told known_files) in
    takes_nothing files known file c.args.rule referral c.in_ok-referral.ensures.value _ found c.in_ok-take_nothing-in-Nowhere.ensures.adds refl refl refl refl

pub returns-in_err-take_known-in-Before-clause-fault : goal.returns-in_err-take_known-in-Before-clause-fault
returns-in_err-take_known-in-Before-clause-fault g c = λ files told known_files.
    let file = c.args.file.now in
    let known = c.args.known.now in
    let rule = c.args.rule in
    let referral = c.in_ok-referral.referral in
    let other = c.in-Before.other in
    let refused = c.in_err-take_known-in-Before.field-0.0 in
    let is_fault : RuleFault → Type 0 = IsFaultOf files known file (part.Rule rule) in
    let found : IsFound files known file.path referral.target.file (Before other) = rw (c.in-Before.is) at (c.in_ok-look_up.ensures.found files told known_files) in
    leaves (IfFault is_fault) c.from_residual-in_err-take_known-in-Before.result refused c.from_residual-in_err-take_known-in-Before.ensures.1
    (own_fault refused
    (λ fault. (files : Files) → AreRead files known.read → IsBefore known other → Leads files file.path referral other → IsFaultOf files known file (part.Rule referral.rule) fault) is_fault
    (λ fault h. before_fault files known file rule referral c.in_ok-referral.ensures.value other fault found.0 (λ leads. h files known_files.read found.1 leads))
    c.in_err-take_known-in-Before.ensures.fault)

pub returns-in_ok-take_known-in-Before-clause-taken : goal.returns-in_ok-take_known-in-Before-clause-taken
returns-in_ok-take_known-in-Before-clause-taken g c = λ files told known_files.
    let file = c.args.file.now in
    let known = c.args.known.now in
    let rule = c.args.rule in
    let referral = c.in_ok-referral.referral in
    let other = c.in-Before.other in
    let found : IsFound files known file.path referral.target.file (Before other) = rw (c.in-Before.is) at (c.in_ok-look_up.ensures.found files told known_files) in
    took_rule files known file rule referral c.in_ok-referral.ensures.value _
    (c.in_ok-take_known-in-Before.ensures.taken files known_files.read (leads_there files file.path other rule referral c.in_ok-referral.ensures.value found.0))

pub returns-in-New-clause-taken : goal.returns-in-New-clause-taken
returns-in-New-clause-taken g c = λ files told known_files.
    let file = c.args.file.now in
    let known = c.args.known.now in
    let referral = c.in_ok-referral.referral in
    let found : IsFound files known file.path referral.target.file (New c.in-New.path c.in-New.written) = rw (c.in-New.is) at (c.in_ok-look_up.ensures.found files told known_files) in
    (refl, opens files known file c.args.rule referral c.in_ok-referral.ensures.value c.in-New.path c.in-New.written found.0 found.1 found.2)

-- ---- a tree that never fails

pub returns-in_err-referral-clause-steady : goal.returns-in_err-referral-clause-steady
returns-in_err-referral-clause-steady g c = λ never.
    let refused = c.in_err-referral.field-0.0 in
    (never, stays_steady c.from_residual.result refused c.from_residual.ensures.1 (own_steady refused _ c.in_err-referral.ensures.fault))

pub returns-in_err-take_nothing-in-Nowhere-clause-steady : goal.returns-in_err-take_nothing-in-Nowhere-clause-steady
returns-in_err-take_nothing-in-Nowhere-clause-steady g c = λ never.
    let refused = c.in_err-take_nothing-in-Nowhere.field-0.0 in (
      (c.in_ok-look_up.ensures.steady never).0,
      stays_steady c.from_residual-in_err-take_nothing-in-Nowhere.result refused c.from_residual-in_err-take_nothing-in-Nowhere.ensures.1
          (own_steady refused _ c.in_err-take_nothing-in-Nowhere.ensures.fault),
    )

pub returns-in_err-take_known-in-Before-clause-steady : goal.returns-in_err-take_known-in-Before-clause-steady
returns-in_err-take_known-in-Before-clause-steady g c = λ never.
    let refused = c.in_err-take_known-in-Before.field-0.0 in (
      (c.in_ok-look_up.ensures.steady never).0,
      stays_steady c.from_residual-in_err-take_known-in-Before.result refused c.from_residual-in_err-take_known-in-Before.ensures.1
          (own_steady refused _ c.in_err-take_known-in-Before.ensures.fault),
    )
