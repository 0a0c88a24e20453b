use Rattle.std.proofs.Common.{List, [], ◌∷◌, ◌++◌, ℕ, refl, subst}
use Rattle.pj_outside.specs.Files.{Files}
use Rattle.pj_rule_sets.specs.Lists.{Taken}
use Rattle.pj_rules.specs.Referring.{AddsTaken, IsTakenFault}
use Rattle.pj_rules.specs.Refusals.{IfOwn}
use Rattle.pj_rules.specs.States.{IsDone, IsFaultOfTop}
use Rattle.pj_rules.specs.declared.fault.RuleFault.{RuleFault}
use Rattle.pj_rules.specs.declared.fault.RuleRefused.TheVariants.{Memory}
use Rattle.pj_rules.proofs.Refusing.{leaves, own_weaker}
use Rattle.pj_rules.proofs.Turns.{goes_back, stops_back}
use Rattle.pj_rules.proofs.reading.go_back.Goals as goal

pub returns-in_err-list-clause-fault : goal.returns-in_err-list-clause-fault
returns-in_err-list-clause-fault c =
    leaves (IfOwn (λ fault. (files : Files) (top : List ℕ) → IsDone files top c.args.known.now (c.args.below ++ c.args.waiting ∷ []) c.args.done → IsFaultOfTop files top fault))
    c.from_residual.result Memory c.from_residual.ensures.1 tt

pub returns-in_err-take-clause-fault : goal.returns-in_err-take-clause-fault
returns-in_err-take-clause-fault c =
    let below = c.args.below in
    let waiting = c.args.waiting in
    let done = c.args.done in
    let refused = c.in_err-take.field-0.0 in
    let taken_fault : RuleFault → Type 0 = IsTakenFault waiting.file.path waiting.file.progress waiting.referral c.as_slice.result.now in
    let is_fault : RuleFault → Type 0 = λ fault. (files : Files) (top : List ℕ) → IsDone files top c.args.known.now (below ++ waiting ∷ []) done → IsFaultOfTop files top fault in
    leaves (IfOwn is_fault) c.from_residual-in_err-take.result refused c.from_residual-in_err-take.ensures.1
    (own_weaker refused taken_fault is_fault
    (λ fault h files top is_done. stops_back files top c.args.known.now below waiting done c.in_ok-list.list fault is_done c.in_ok-list.ensures
    (subst (λ (list : List Taken). IsTakenFault waiting.file.path waiting.file.progress waiting.referral list fault) c.as_slice.ensures h))
    c.in_err-take.ensures.fault)

pub returns-clause-next : goal.returns-clause-next
returns-clause-next c = λ files top is_done.
    let waiting = c.args.waiting in
    goes_back files top c.args.known.now _ c.args.below waiting c.args.done _ c.pop.result c.in_ok-list.list is_done c.in_ok-list.ensures c.pop.ensures c.in_ok-put.ensures.put
    (subst (λ (list : List Taken). AddsTaken waiting.file.path waiting.file.progress waiting.referral list c.take.new.progress) c.as_slice.ensures c.in_ok-take.ensures.adds)
    refl refl refl refl
