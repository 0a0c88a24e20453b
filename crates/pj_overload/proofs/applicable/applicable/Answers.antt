use Rattle.std.proofs.Common.{◌≤◌, arith, length, rules, sym}
use Rattle.pj_overload.specs.Phases.{is_applicable}
use Rattle.pj_overload.specs.Seen.{arguments_seen, candidate_seen, candidates_seen}
use Rattle.pj_overload.proofs.InsideLaws.{among-none, among-put}
use Rattle.pj_overload.proofs.Loops.{behind-begin, behind-over, behind-put, behind-refused, behind-stops}
use Rattle.pj_overload.proofs.applicable.applicable.Goals as goal

pub loop-candidate-init : goal.loop-candidate-init
loop-candidate-init g c = record {
  so_far = behind-begin candidate_seen c.args.candidates.now c.as_slice-candidate-items.result.now c.new-found.result (λ candidate. is_applicable c.args.phase (arguments_seen c.args.arguments.now) candidate) c.new-found.ensures c.as_slice-candidate-items.ensures;
  among = among-none (candidates_seen c.as_slice-candidate-items.result.now) c.new-found.result c.new-found.ensures;
}

pub loop-candidate-preserved : goal.loop-candidate-preserved
loop-candidate-preserved g c = record {
  so_far = behind-put candidate_seen c.as_slice-candidate-items.result.now c.loop-candidate.candidate-index c.candidate-item.result c.loop-candidate-test.true c.candidate-item.is
      (λ candidate. is_applicable c.args.phase (arguments_seen c.args.arguments.now) candidate) (candidates_seen c.loop-candidate.found) c.loop-candidate.invariant.so_far
      (candidates_seen c.put_if.new.candidates) c.in_ok-is_taken.ensures c.in_ok-put_if.ensures;
  among = among-put c.as_slice-candidate-items.result.now c.loop-candidate.candidate-index c.candidate-item.result (candidates_seen c.loop-candidate.found) (candidates_seen c.put_if.new.candidates) c.in_ok-is_taken.is_taken c.loop-candidate-test.true c.candidate-item.is
      c.loop-candidate.invariant.among c.in_ok-put_if.ensures;
}

pub returns-in_err-is_taken-clause-asks : goal.returns-in_err-is_taken-clause-asks
returns-in_err-is_taken-clause-asks g c =
    behind-refused candidate_seen c.as_slice-candidate-items.result.now c.loop-candidate.candidate-index c.candidate-item.result c.loop-candidate-test.true c.candidate-item.is
    (λ candidate. is_applicable c.args.phase (arguments_seen c.args.arguments.now) candidate) (candidates_seen c.loop-candidate.found) c.loop-candidate.invariant.so_far
    c.in_err-is_taken.ensures (search rules)

pub returns-in_err-put_if-clause-asks : goal.returns-in_err-put_if-clause-asks
returns-in_err-put_if-clause-asks g c =
    behind-stops candidate_seen c.as_slice-candidate-items.result.now c.loop-candidate.candidate-index c.candidate-item.result c.loop-candidate-test.true c.candidate-item.is
    (λ candidate. is_applicable c.args.phase (arguments_seen c.args.arguments.now) candidate) (candidates_seen c.loop-candidate.found) c.loop-candidate.invariant.so_far
    c.in_ok-is_taken.ensures (search rules)

pub returns-clause-asks : goal.returns-clause-asks
returns-clause-asks g c =
    let over : length c.as_slice-candidate-items.result.now ≤ c.loop-candidate.candidate-index = omega arith in
    behind-over candidate_seen c.as_slice-candidate-items.result.now c.loop-candidate.candidate-index (λ candidate. is_applicable c.args.phase (arguments_seen c.args.arguments.now) candidate)
    (candidates_seen c.loop-candidate.found) over c.loop-candidate.invariant.so_far (search rules)

pub returns-clause-inside : goal.returns-clause-inside
returns-clause-inside g c = rw (sym c.as_slice-candidate-items.ensures) c.loop-candidate.invariant.among
