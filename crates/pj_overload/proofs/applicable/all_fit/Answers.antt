use Rattle.std.proofs.Common.{◌≤◌, arith, length, rules}
use Rattle.pj_names.specs.JavaType.{java_type}
use Rattle.pj_overload.specs.Phases.{fits}
use Rattle.pj_overload.specs.Seen.{argument_seen}
use Rattle.pj_overload.proofs.Loops.{pair-fails, pair-goes_on, pair-over, pair-past, pair-refused}
use Rattle.pj_overload.proofs.applicable.all_fit.Goals as goal

pub loop-place-preserved : goal.loop-place-preserved
loop-place-preserved g c =
    pair-goes_on argument_seen c.args.arguments.now c.loop-place.place c.index-arguments-place.result c.loop-place-test.true c.index-arguments-place.is java_type c.args.parameters.now c.in-Some.parameter.now
    c.in-Some.ensures.lookup.3.0 c.in-Some.ensures.lookup.1 (λ pair. fits c.args.phase pair.0 pair.1) c.loop-place.invariant c.in_ok-is_fitting.ensures c.if-not-is_fitting.false

pub returns-in_default : goal.returns-in_default
returns-in_default g c = pair-past argument_seen c.args.arguments.now java_type c.args.parameters.now c.loop-place.place (λ pair. fits c.args.phase pair.0 pair.1) c.in_default.ensures.lookup.3 c.loop-place.invariant (search rules)

pub returns-in_err-is_fitting : goal.returns-in_err-is_fitting
returns-in_err-is_fitting g c =
    pair-refused argument_seen c.args.arguments.now c.loop-place.place c.index-arguments-place.result c.loop-place-test.true c.index-arguments-place.is java_type c.args.parameters.now c.in-Some.parameter.now
    c.in-Some.ensures.lookup.3.0 c.in-Some.ensures.lookup.1 (λ pair. fits c.args.phase pair.0 pair.1) c.loop-place.invariant c.in_err-is_fitting.ensures (search rules)

pub returns-then-not-is_fitting : goal.returns-then-not-is_fitting
returns-then-not-is_fitting g c =
    pair-fails argument_seen c.args.arguments.now c.loop-place.place c.index-arguments-place.result c.loop-place-test.true c.index-arguments-place.is java_type c.args.parameters.now c.in-Some.parameter.now
    c.in-Some.ensures.lookup.3.0 c.in-Some.ensures.lookup.1 (λ pair. fits c.args.phase pair.0 pair.1) c.loop-place.invariant c.in_ok-is_fitting.ensures c.if-not-is_fitting.true (search rules)

pub returns : goal.returns
returns g c =
    let over : length c.args.arguments.now ≤ c.loop-place.place = omega arith in
    pair-over argument_seen c.args.arguments.now java_type c.args.parameters.now c.loop-place.place (λ pair. fits c.args.phase pair.0 pair.1) over c.loop-place.invariant (search rules)
