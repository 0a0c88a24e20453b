use Rattle.std.proofs.Common.{List, ℕ, Bool, refl}
use Rattle.pj_outside.specs.Files.{Files}
use Rattle.pj_rule_texts.specs.declared.written.Part.TheVariants as part
use Rattle.pj_rules.specs.Effective.{PartFault}
use Rattle.pj_rules.specs.Refusals.{IfFault}
use Rattle.pj_rules.specs.States.{IsFaultOf, is_top}
use Rattle.pj_rules.specs.declared.fault.RuleFault.{RuleFault}
use Rattle.pj_rules.proofs.PartFacts.{takes_rule}
use Rattle.pj_rules.proofs.Refusing.{leaves, own_fault, own_steady, stays_steady}
use Rattle.pj_rules.proofs.reading.take_rule.Goals as goal

pub returns-in_err-define-in-None-clause-fault : goal.returns-in_err-define-in-None-clause-fault
returns-in_err-define-in-None-clause-fault g c = λ files told known_files.
    let file = c.args.file.now in
    let known = c.args.known.now in
    let rule = c.args.rule in
    let refused = c.in_err-define-in-None.field-0.0 in
    let is_fault : RuleFault → Type 0 = IsFaultOf files known file (part.Rule rule) in
    leaves (IfFault is_fault) c.from_residual-in_err-define-in-None.result refused c.from_residual-in_err-define-in-None.ensures.1
    (own_fault refused (λ fault. (files : Files) (is_top : Bool) (open_ : List (List ℕ)) → PartFault files is_top open_ file.path file.rule_set file.progress (part.Rule rule) fault) is_fault
    (λ fault h. h files (is_top file) known.open_paths) c.in_err-define-in-None.ensures.fault)

pub returns-in_ok-define-in-None-clause-taken : goal.returns-in_ok-define-in-None-clause-taken
returns-in_ok-define-in-None-clause-taken g c = λ files told known_files.
    takes_rule files c.args.file.now _ c.args.rule refl refl refl refl (c.in_ok-define-in-None.ensures.adds files)

pub returns-in_err-define-in-None-clause-steady : goal.returns-in_err-define-in-None-clause-steady
returns-in_err-define-in-None-clause-steady g c = λ never.
    let refused = c.in_err-define-in-None.field-0.0 in
    (never, stays_steady c.from_residual-in_err-define-in-None.result refused c.from_residual-in_err-define-in-None.ensures.1 (own_steady refused _ c.in_err-define-in-None.ensures.fault))
