use Rattle.std.proofs.Common.{◌≡◌, List, refl, sym, subst}
use Rattle.std.proofs.lemmas.Result.{IfErr-weaker, on_ok_weaker}
use Rattle.pj_outside.specs.Files.{Files}
use Rattle.pj_rule_sets.specs.Lists.{Taken}
use Rattle.pj_rule_texts.specs.declared.written.Part.TheVariants as part
use Rattle.pj_rules.specs.Finding.{IsBefore}
use Rattle.pj_rules.specs.Known.{AreRead}
use Rattle.pj_rules.specs.Referring.{AddsTaken, IsTakenFault, Leads}
use Rattle.pj_rules.specs.Refusals.{IfOwn}
use Rattle.pj_rules.specs.States.{IsFaultOf}
use Rattle.pj_rules.specs.declared.fault.RuleFault.{RuleFault}
use Rattle.pj_rules.specs.declared.fault.RuleWhat.TheVariants.{RefCycle}
use Rattle.pj_rules.proofs.PartFacts.{cycle_fault, known_fault, takes_known}
use Rattle.pj_rules.proofs.Refusing.{own_weaker}
use Rattle.pj_rules.proofs.reading.take_known.Goals as goal

pub returns-in-None-clause-fault : goal.returns-in-None-clause-fault
returns-in-None-clause-fault c =
    let file = c.args.file.now in
    let known = c.args.known.now in
    let referral = c.args.referral in
    let other = c.args.other.now in
    own_weaker c.refused.result (λ fault. (fault.path ≡ file.path) × (fault.what ≡ RefCycle referral.reference))
    (λ fault. (files : Files) → AreRead files known.read → IsBefore known other → Leads files file.path referral other → IsFaultOf files known file (part.Rule referral.rule) fault)
    (λ fault h files read before leads. cycle_fault files file known referral other fault (sym c.in-None.ensures) before leads h) c.refused.ensures

pub returns-in-Some-clause-taken : goal.returns-in-Some-clause-taken
returns-in-Some-clause-taken c =
    let file = c.args.file.now in
    let referral = c.args.referral in
    on_ok_weaker c.take.result
    (λ adds files read leads. takes_known files file _ c.args.known.now referral c.args.other.now c.in-Some.list.now (sym c.in-Some.ensures) read leads
    (subst (λ (list : List Taken). AddsTaken file.path file.progress referral list c.take.new.progress) c.as_slice.ensures adds) refl refl refl refl)
    c.take.ensures.adds

pub returns-in-Some-clause-fault : goal.returns-in-Some-clause-fault
returns-in-Some-clause-fault c =
    let file = c.args.file.now in
    let known = c.args.known.now in
    let referral = c.args.referral in
    let other = c.args.other.now in
    let taken_fault : RuleFault → Type 0 = IsTakenFault file.path file.progress referral c.as_slice.result.now in
    let is_fault : RuleFault → Type 0 = λ fault. (files : Files) → AreRead files known.read → IsBefore known other → Leads files file.path referral other → IsFaultOf files known file (part.Rule referral.rule) fault in
    IfErr-weaker c.take.result (IfOwn taken_fault) (IfOwn is_fault)
    (λ refused h. own_weaker refused taken_fault is_fault
    (λ fault h files read before leads. known_fault files file known referral other c.in-Some.list.now fault (sym c.in-Some.ensures) read leads
    (subst (λ (list : List Taken). IsTakenFault file.path file.progress referral list fault) c.as_slice.ensures h)) h)
    c.take.ensures.fault
