use Rattle.std.proofs.Common.{◌≤◌, arith, length, rules}
use Rattle.pj_overload.specs.Seen.{candidate_seen}
use Rattle.pj_overload.specs.Specific.{is_itself_or_under}
use Rattle.pj_overload.proofs.Loops.{all-fails, all-goes_on, all-over, all-refused}
use Rattle.pj_overload.proofs.specific.is_most_specific.Goals as goal

pub loop-other-preserved : goal.loop-other-preserved
loop-other-preserved g c =
    all-goes_on candidate_seen c.as_slice-other-items.result.now c.loop-other.other-index c.other-item.result c.loop-other-test.true c.other-item.is
    (λ other. is_itself_or_under c.args.phase c.args.count (candidate_seen c.args.candidate.now) other) c.loop-other.invariant c.in_ok-is_under.ensures c.if-not-is_under.false

pub returns-then-not-is_under : goal.returns-then-not-is_under
returns-then-not-is_under g c =
    all-fails candidate_seen c.as_slice-other-items.result.now c.loop-other.other-index c.other-item.result c.loop-other-test.true c.other-item.is
    (λ other. is_itself_or_under c.args.phase c.args.count (candidate_seen c.args.candidate.now) other) c.loop-other.invariant c.in_ok-is_under.ensures c.if-not-is_under.true (search rules)

pub returns-in_err-is_under : goal.returns-in_err-is_under
returns-in_err-is_under g c =
    all-refused candidate_seen c.as_slice-other-items.result.now c.loop-other.other-index c.other-item.result c.loop-other-test.true c.other-item.is
    (λ other. is_itself_or_under c.args.phase c.args.count (candidate_seen c.args.candidate.now) other) c.loop-other.invariant c.in_err-is_under.ensures (search rules)

pub returns : goal.returns
returns g c =
    let over : length c.as_slice-other-items.result.now ≤ c.loop-other.other-index = omega arith in
    all-over candidate_seen c.as_slice-other-items.result.now c.loop-other.other-index (λ other. is_itself_or_under c.args.phase c.args.count (candidate_seen c.args.candidate.now) other) over c.loop-other.invariant (search rules)
