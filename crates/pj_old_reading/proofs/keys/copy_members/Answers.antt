use Rattle.std.proofs.Common.{◌+◌, ◌-◌, map}
use Rattle.pj_old_format.specs.ListKeys.{all_tested, members}
use Rattle.pj_old_reading.specs.Copied.{test_of}
use Rattle.std.proofs.lemmas.Result.{err_from_is_err_and}
use Rattle.pj_old_reading.proofs.Copies.{loop_goes, loop_fails, loop_ends, members_more, members_done}
use Rattle.pj_old_reading.proofs.keys.copy_members.Goals as goal

pub returns-in_err-behind : goal.returns-in_err-behind
returns-in_err-behind c =
    let p = err_from_is_err_and c.from_residual.result c.from_residual.ensures.1 in
    let e = c.in_err-behind.field-0.0 in
    rw (p.1, p.2)
    (loop_fails e (all_tested (map test_of c.args.tests.now)) (members (all_tested (map test_of c.args.tests.now)) (c.args.count - (c.loop.counter + 1))) _ _ c.args.bytes.now c.loop.place c.args.copy.now.items c.loop.copy.items
    (members_more (all_tested (map test_of c.args.tests.now)) c.args.count c.loop.counter c.args.bytes.now c.loop.place c.loop-test.true) c.in_err-behind.ensures c.loop.invariant)

pub loop-preserved : goal.loop-preserved
loop-preserved c =
    loop_goes (all_tested (map test_of c.args.tests.now)) (members (all_tested (map test_of c.args.tests.now)) (c.args.count - (c.loop.counter + 1))) _ _ c.args.bytes.now c.loop.place c.in_ok-behind.behind c.args.copy.now.items c.loop.copy.items c.copy_all.new.copy.items
    (members_more (all_tested (map test_of c.args.tests.now)) c.args.count c.loop.counter c.args.bytes.now c.loop.place c.loop-test.true) c.in_ok-behind.ensures c.loop.invariant

pub returns : goal.returns
returns c = loop_ends _ _ c.loop.place c.args.copy.now.items c.loop.copy.items (members_done (all_tested (map test_of c.args.tests.now)) c.args.count c.loop.counter c.args.bytes.now c.loop.place c.loop-test.false) c.loop.invariant
