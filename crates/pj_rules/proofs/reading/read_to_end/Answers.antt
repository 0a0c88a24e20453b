use Rattle.std.proofs.Common.{◌∙◌}
use Rattle.pj_rules.specs.Refusals.{IfFault}
use Rattle.pj_rules.specs.States.{GoesOn, IsFaultOfTop}
use Rattle.pj_rules.specs.declared.reading.Next.TheVariants.{Goes, Ends}
use Rattle.pj_rules.proofs.Refusing.{leaves}
use Rattle.pj_rules.proofs.reading.read_to_end.Goals as goal

pub returns-in_err-next-clause-fault : goal.returns-in_err-next-clause-fault
returns-in_err-next-clause-fault g c = λ files top told stack.
    leaves (IfFault (IsFaultOfTop files top)) c.from_residual.result c.in_err-next.field-0.0 c.from_residual.ensures.1
    (c.in_err-next.ensures.fault files top (c.loop.invariant.same_files ∙ told) (c.loop.invariant.stands files top told stack))

pub returns-in-Ends-clause-ended : goal.returns-in-Ends-clause-ended
returns-in-Ends-clause-ended g c = λ files top told stack.
    let ends : GoesOn files top c.turn.new.known (Ends c.in-Ends.file) =
    rw (c.in-Ends.is) at (c.in_ok-next.ensures.next files top (c.loop.invariant.same_files ∙ told) (c.loop.invariant.stands files top told stack)) in
    ends

pub loop-preserved : goal.loop-preserved
loop-preserved g c =
    let kept = c.loop.invariant in
    record {
      same_files = c.in_ok-next.ensures.same_files ∙ kept.same_files;
      same_faults = c.in_ok-next.ensures.counts_faults ∙ kept.same_faults;
      steady = λ s. (c.in_ok-next.ensures.steady (kept.steady s)).0;
      stands = λ files top told stack.
          let goes : GoesOn files top c.turn.new.known (Goes c.in-Goes.next) =
          rw (c.in-Goes.is) at (c.in_ok-next.ensures.next files top (kept.same_files ∙ told) (kept.stands files top told stack)) in
          goes;
    }
