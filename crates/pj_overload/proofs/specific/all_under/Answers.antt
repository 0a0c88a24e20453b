use Rattle.std.proofs.Common.{◌≤◌, arith, length, rules}
use Rattle.pj_names.specs.JavaType.{java_type}
use Rattle.pj_types.specs.Subtyping.{is_under}
use Rattle.pj_overload.proofs.Loops.{pair-fails, pair-goes_on, pair-over, pair-past, pair-refused}
use Rattle.pj_overload.proofs.specific.all_under.Goals as goal

pub loop-place-preserved : goal.loop-place-preserved
loop-place-preserved g c =
    pair-goes_on java_type c.args.lowers.now c.loop-place.place c.index-lowers-place.result c.loop-place-test.true c.index-lowers-place.is java_type c.args.uppers.now c.in-Some.upper.now
    c.in-Some.ensures.lookup.3.0 c.in-Some.ensures.lookup.1 (λ pair. is_under pair.0 pair.1) c.loop-place.invariant c.in_ok-is_under.ensures c.if-not-is_under.false

pub returns-in_default : goal.returns-in_default
returns-in_default g c = pair-past java_type c.args.lowers.now java_type c.args.uppers.now c.loop-place.place (λ pair. is_under pair.0 pair.1) c.in_default.ensures.lookup.3 c.loop-place.invariant (search rules)

pub returns-in_err-is_under : goal.returns-in_err-is_under
returns-in_err-is_under g c =
    pair-refused java_type c.args.lowers.now c.loop-place.place c.index-lowers-place.result c.loop-place-test.true c.index-lowers-place.is java_type c.args.uppers.now c.in-Some.upper.now
    c.in-Some.ensures.lookup.3.0 c.in-Some.ensures.lookup.1 (λ pair. is_under pair.0 pair.1) c.loop-place.invariant c.in_err-is_under.ensures (search rules)

pub returns-then-not-is_under : goal.returns-then-not-is_under
returns-then-not-is_under g c =
    pair-fails java_type c.args.lowers.now c.loop-place.place c.index-lowers-place.result c.loop-place-test.true c.index-lowers-place.is java_type c.args.uppers.now c.in-Some.upper.now
    c.in-Some.ensures.lookup.3.0 c.in-Some.ensures.lookup.1 (λ pair. is_under pair.0 pair.1) c.loop-place.invariant c.in_ok-is_under.ensures c.if-not-is_under.true (search rules)

pub returns : goal.returns
returns g c =
    let over : length c.args.lowers.now ≤ c.loop-place.place = omega arith in
    pair-over java_type c.args.lowers.now java_type c.args.uppers.now c.loop-place.place (λ pair. is_under pair.0 pair.1) over c.loop-place.invariant (search rules)
