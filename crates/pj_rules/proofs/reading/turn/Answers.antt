use Rattle.std.proofs.Common.{List, ℕ, refl}
use Rattle.std.proofs.lemmas.Result.{IfErr-weaker, IfOk-weaker}
use Rattle.pj_outside.specs.Files.{Files}
use Rattle.pj_rules.specs.Refusals.{IfFault, IfOwn}
use Rattle.pj_rules.specs.States.{GoesOn, IsDone, IsFaultOfTop}
use Rattle.pj_rules.specs.declared.fault.RuleFault.{RuleFault}
use Rattle.pj_rules.specs.declared.reading.Next.{Next}
use Rattle.pj_rules.proofs.Refusing.{own_fault, own_result, own_result_steady}
use Rattle.pj_rules.proofs.Turns.{ends_next, takes_next}
use Rattle.pj_rules.proofs.reading.turn.Goals as goal

pub returns-in-Some-clause-next : goal.returns-in-Some-clause-next
returns-in-Some-clause-next g c = λ files top told stack.
    let old = c.args.stack.current in
    c.go_on.ensures.next files top told (takes_next files top c.args.known.now c.args.stack.below old (record old { rest = c.next.new.self }) c.in-Some.part refl refl refl refl c.in-Some.ensures stack)

pub returns-in-Some-clause-fault : goal.returns-in-Some-clause-fault
returns-in-Some-clause-fault g c = λ files top told stack.
    let old = c.args.stack.current in
    c.go_on.ensures.fault files top told (takes_next files top c.args.known.now c.args.stack.below old (record old { rest = c.next.new.self }) c.in-Some.part refl refl refl refl c.in-Some.ensures stack)

pub returns-in-None-clause-counts_faults : goal.returns-in-None-clause-counts_faults
returns-in-None-clause-counts_faults g c = own_result c.end_file.result _ _ _ refl c.end_file.ensures.fault

pub returns-in-None-clause-next : goal.returns-in-None-clause-next
returns-in-None-clause-next g c = λ files top told stack.
    let old = c.args.stack.current in
    let file = record old { rest = c.next.new.self } in
    let known = c.args.known.now in
    IfOk-weaker c.end_file.result (λ (next : Next). (files : Files) (top : List ℕ) → IsDone files top known c.args.stack.below file → GoesOn files top c.end_file.new.known next) _
    (λ next h. h files top (ends_next files top known c.args.stack.below old file refl refl refl refl c.in-None.ensures.0 stack)) c.end_file.ensures.next

pub returns-in-None-clause-fault : goal.returns-in-None-clause-fault
returns-in-None-clause-fault g c = λ files top told stack.
    let old = c.args.stack.current in
    let file = record old { rest = c.next.new.self } in
    let known = c.args.known.now in
    let own : RuleFault → Type 0 = λ fault. (files : Files) (top : List ℕ) → IsDone files top known c.args.stack.below file → IsFaultOfTop files top fault in
    IfErr-weaker c.end_file.result (IfOwn own) (IfFault (IsFaultOfTop files top))
    (λ refused h. own_fault refused own (IsFaultOfTop files top)
    (λ fault f. f files top (ends_next files top known c.args.stack.below old file refl refl refl refl c.in-None.ensures.0 stack)) h) c.end_file.ensures.fault

pub returns-in-None-clause-steady : goal.returns-in-None-clause-steady
returns-in-None-clause-steady g c = λ never. (never, own_result_steady c.end_file.result _ c.end_file.ensures.fault)
