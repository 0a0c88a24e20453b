use Rattle.std.proofs.Common.{◌≡◌, ◌∙◌, true, false, ap, sym, subst}
use Rattle.pj_outside.specs.Files.{Files}
use Rattle.pj_rule_texts.specs.Files.{is_there}
use Rattle.pj_rule_texts.specs.References.{is_from_elsewhere}
use Rattle.pj_rule_texts.specs.Values.{Text}
use Rattle.pj_rules.specs.Load.{IsTopFault}
use Rattle.pj_rules.specs.declared.fault.RuleWhat.TheVariants.{MissingRef}
use Rattle.pj_rules.proofs.Refusing.{own_weaker}
use Rattle.pj_rules.proofs.TopFacts.{absent, missing_top, one_absent}
use Rattle.pj_rules.proofs.top.absent_top.Goals as goal

pub returns-then-not-is_from_elsewhere-clause-fault : goal.returns-then-not-is_from_elsewhere-clause-fault
returns-then-not-is_from_elsewhere-clause-fault c =
    let path = c.args.path.now in
    let reference = c.in_ok-reference.reference in
    let not_elsewhere : is_from_elsewhere path ≡ false =
    subst (λ f. is_from_elsewhere f ≡ false) c.as_str.ensures (sym c.is_from_elsewhere.ensures ∙ c.if-not-is_from_elsewhere.true) in
    own_weaker c.refused.result (λ fault. (fault.path ≡ path) × (fault.what ≡ MissingRef reference)) (λ fault. (files : Files) → is_there files path ≡ false → IsTopFault files path fault)
    (λ fault h files gone. missing_top files path fault gone not_elsewhere (h.0, h.1 ∙ ap (λ (t : Text). MissingRef t) c.in_ok-reference.ensures)) c.refused.ensures

pub returns-clause-top : goal.returns-clause-top
returns-clause-top c = λ files gone.
    let path = c.args.path.now in
    let elsewhere : is_from_elsewhere path ≡ true =
    subst (λ f. is_from_elsewhere f ≡ true) c.as_str.ensures (sym c.is_from_elsewhere.ensures ∙ c.if-not-is_from_elsewhere.false) in
    absent files path _ _ _
    (one_absent files path _ _ _ _ _ _ c.in_ok-push.ensures.ok c.new-list.ensures c.in_ok-copied.ensures c.in_ok-copied-2.ensures c.in_ok-entry.ensures c.in_ok-reference.ensures)
    c.new.ensures.exclude c.new.ensures.include gone elsewhere
