use Rattle.std.proofs.Common.{List, ℕ, [], ◌∷◌, ◌++◌, subst}
use Rattle.pj_outside.specs.Files.{Files}
use Rattle.pj_rules.specs.Refusals.{IfOwn}
use Rattle.pj_rules.specs.States.{IsDone, IsFaultOfTop}
use Rattle.pj_rules.specs.declared.fault.RuleFault.{RuleFault}
use Rattle.pj_rules.specs.declared.open_file.Waiting.{Waiting}
use Rattle.pj_rules.proofs.Refusing.{leaves, own_weaker}
use Rattle.pj_rules.proofs.Turns.{ended}
use Rattle.pj_rules.proofs.reading.end_file.Goals as goal

pub returns-in-None-clause-next : goal.returns-in-None-clause-next
returns-in-None-clause-next c = λ files top is_done.
    ended files top c.args.known.now c.args.file (subst (λ (below : List Waiting). IsDone files top c.args.known.now below c.args.file) c.in-None.ensures.0 is_done)

pub returns-in_ok-next-in-Some-clause-next : goal.returns-in_ok-next-in-Some-clause-next
returns-in_ok-next-in-Some-clause-next c = λ files top is_done.
    c.in_ok-next-in-Some.ensures.next files top (subst (λ (below : List Waiting). IsDone files top c.args.known.now below c.args.file) c.in-Some.ensures is_done)

pub returns-in_err-next-in-Some-clause-fault : goal.returns-in_err-next-in-Some-clause-fault
returns-in_err-next-in-Some-clause-fault c =
    let refused = c.in_err-next-in-Some.field-0.0 in
    let known = c.args.known.now in
    let is_fault : List Waiting → RuleFault → Type 0 = λ below fault. (files : Files) (top : List ℕ) → IsDone files top known below c.args.file → IsFaultOfTop files top fault in
    leaves (IfOwn (is_fault c.args.below)) c.from_residual.result refused c.from_residual.ensures.1
    (own_weaker refused (is_fault (c.pop.new.self ++ c.in-Some.waiting ∷ [])) (is_fault c.args.below)
    (λ fault h files top is_done. h files top (subst (λ (below : List Waiting). IsDone files top known below c.args.file) c.in-Some.ensures is_done)) c.in_err-next-in-Some.ensures.fault)
