use Rattle.std.proofs.Common.{◌≤◌, arith, length, rules, sym}
use Rattle.pj_overload.specs.Seen.{candidate_seen, candidates_seen}
use Rattle.pj_overload.specs.Specific.{most_specific_at}
use Rattle.pj_overload.proofs.InsideLaws.{number-among}
use Rattle.pj_overload.proofs.Loops.{hit-found, hit-goes_on, hit-over, hit-refused}
use Rattle.pj_overload.proofs.specific.best_of.Goals as goal

pub loop-candidate-preserved : goal.loop-candidate-preserved
loop-candidate-preserved g c =
    hit-goes_on candidate_seen c.as_slice-candidate-items.result.now c.loop-candidate.candidate-index c.candidate-item.result c.loop-candidate-test.true c.candidate-item.is
    (λ candidate. most_specific_at c.args.phase c.args.count (candidates_seen c.args.candidates.now) candidate) c.loop-candidate.invariant c.in_ok-best.ensures.asks c.in_default.is

pub returns-in-Some-clause-asks : goal.returns-in-Some-clause-asks
returns-in-Some-clause-asks g c =
    hit-found candidate_seen c.as_slice-candidate-items.result.now c.loop-candidate.candidate-index c.candidate-item.result c.loop-candidate-test.true c.candidate-item.is
    (λ candidate. most_specific_at c.args.phase c.args.count (candidates_seen c.args.candidates.now) candidate) c.loop-candidate.invariant c.in_ok-best.ensures.asks c.in-Some.is (search rules)

pub returns-in_err-best-clause-asks : goal.returns-in_err-best-clause-asks
returns-in_err-best-clause-asks g c =
    hit-refused candidate_seen c.as_slice-candidate-items.result.now c.loop-candidate.candidate-index c.candidate-item.result c.loop-candidate-test.true c.candidate-item.is
    (λ candidate. most_specific_at c.args.phase c.args.count (candidates_seen c.args.candidates.now) candidate) c.loop-candidate.invariant c.in_err-best.ensures.asks (search rules)

pub returns-clause-asks : goal.returns-clause-asks
returns-clause-asks g c =
    let over : length c.as_slice-candidate-items.result.now ≤ c.loop-candidate.candidate-index = omega arith in
    hit-over candidate_seen c.as_slice-candidate-items.result.now c.loop-candidate.candidate-index (λ candidate. most_specific_at c.args.phase c.args.count (candidates_seen c.args.candidates.now) candidate) over c.loop-candidate.invariant (search rules)

pub returns-in-Some-clause-inside : goal.returns-in-Some-clause-inside
returns-in-Some-clause-inside g c =
    let same = rw c.in-Some.is at c.in_ok-best.ensures.number in
    let among = number-among c.as_slice-candidate-items.result.now c.loop-candidate.candidate-index c.candidate-item.result c.in-Some.number c.loop-candidate-test.true c.candidate-item.is same in
    rw (sym c.as_slice-candidate-items.ensures) among
