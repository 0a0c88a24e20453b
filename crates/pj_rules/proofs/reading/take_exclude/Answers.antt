use Rattle.std.proofs.Common.{◌≡◌, ◌∙◌, true, Option, is_some, refl, sym, ap}
use Rattle.pj_outside.specs.Files.{Files}
use Rattle.pj_rule_sets.specs.declared.path_patterns.PathPatterns.{PathPatterns}
use Rattle.pj_rule_texts.specs.declared.written.Part.TheVariants as part
use Rattle.pj_rules.specs.Patterns.{IsPatternFault}
use Rattle.pj_rules.specs.Refusals.{IfOwn}
use Rattle.pj_rules.specs.States.{IsFaultOf}
use Rattle.pj_rules.specs.declared.fault.RuleFault.{RuleFault}
use Rattle.pj_rule_sets.specs.declared.known.Known.{Known}
use Rattle.pj_rules.proofs.PartFacts.{exclude_fault, takes_exclude}
use Rattle.pj_rules.proofs.Refusing.{leaves, own_weaker}
use Rattle.pj_rules.proofs.reading.take_exclude.Goals as goal

pub returns-in_err-file-clause-fault : goal.returns-in_err-file-clause-fault
returns-in_err-file-clause-fault c =
    let file = c.args.file.now in
    let text = c.args.text in
    let refused = c.in_err-file.field-0.0 in
    let is_fault : RuleFault → Type 0 = λ fault. (files : Files) (known : Known) → IsFaultOf files known file (part.ExcludePattern text) fault in
    leaves (IfOwn is_fault) c.from_residual.result refused c.from_residual.ensures.1
    (own_weaker refused (λ fault. (is_some c.take-patterns.result ≡ true) × IsPatternFault file.path text fault) is_fault
    (λ fault h files known. exclude_fault files known file text fault (ap (λ (o : Option PathPatterns). is_some o) (sym c.take-patterns.ensures.value) ∙ h.0) h.1)
    c.in_err-file.ensures.refused)

pub returns-clause-taken : goal.returns-clause-taken
returns-clause-taken c = λ files.
    takes_exclude files c.args.file.now _ c.args.text c.take-patterns.result c.take-patterns.ensures.value refl refl refl refl c.in_ok-file.ensures.value
