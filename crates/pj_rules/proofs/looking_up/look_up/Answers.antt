use Rattle.std.proofs.Common.{sym, ap₂, subst, ◌∙◌, ◌≡◌, false}
use Rattle.std.proofs.lemmas.Result.{IfErr-weaker}
use Rattle.pj_rule_texts.specs.Files.{is_there}
use Rattle.pj_rule_texts.specs.References.{beside}
use Rattle.pj_rules.specs.Finding.{IsFoundFault, IsNewFault}
use Rattle.pj_rules.specs.Refusals.{IfFault}
use Rattle.pj_rules.proofs.Finding.{fault_beside, not_empty}
use Rattle.pj_rules.proofs.Refusing.{fault_weaker}
use Rattle.pj_rules.proofs.looking_up.look_up.Goals as goal

pub returns-in_ok-path-in-Nowhere-clause-fault : goal.returns-in_ok-path-in-Nowhere-clause-fault
returns-in_ok-path-in-Nowhere-clause-fault g c = λ files told known.
    let from = c.args.from.now in
    let file = c.args.file.now in
    let gone : is_there files file ≡ false = subst (λ p. is_there files p ≡ false) c.in_ok-path.ensures (rw (c.in-Nowhere.is) at (c.in_ok-path-2.ensures.found files told known)) in
    let is_beside = c.in_ok-path-in-Nowhere.ensures ∙ ap₂ beside c.as_str.ensures c.as_str-in-Nowhere.ensures in
    IfErr-weaker c.found_at-in-Nowhere.result (IfFault (IsNewFault files c.args.known.now c.in_ok-path-in-Nowhere.path)) (IfFault (IsFoundFault files c.args.known.now from file))
    (λ r h. fault_weaker r (IsNewFault files c.args.known.now c.in_ok-path-in-Nowhere.path) (IsFoundFault files c.args.known.now from file)
    (λ fault new. fault_beside files c.args.known.now from file fault (not_empty files file (sym c.is_empty.ensures ∙ c.if-is_empty.false)) gone
    (subst (λ p. IsNewFault files c.args.known.now p fault) is_beside new)) h)
    (c.found_at-in-Nowhere.ensures.fault files (c.found_at.ensures.same_files ∙ told))
