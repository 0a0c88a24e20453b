use Rattle.std.proofs.Common.{◌+◌, map, drop, get_or, ap}
use Rattle.std.proofs.lemmas.Result.{err_from_is_err_and}
use Rattle.pj_format.specs.Format.{first}
use Rattle.pj_old_format.specs.ListKeys.{tested, all_tested}
use Rattle.pj_old_reading.specs.Copied.{test_of}
use Rattle.pj_old_reading.specs.declared.keys.Test.TheVariants.{Word}
use Rattle.pj_old_reading.proofs.Copies.{loop_goes, loop_fails, loop_ends, tests_left, tests_done}
use Rattle.pj_old_reading.proofs.keys.copy_all.Goals as goal

pub returns-in_err-behind : goal.returns-in_err-behind
returns-in_err-behind c =
    let p = err_from_is_err_and c.from_residual.result c.from_residual.ensures.1 in
    let e = c.in_err-behind.field-0.0 in
    let words = c.args.tests.now in
    let i = c.loop-word.word-index in
    rw (p.1, p.2)
    (loop_fails e (tested (test_of (get_or words i Word))) (all_tested (map test_of (drop (i + 1) words))) _ _ c.args.bytes.now c.loop-word.place c.args.copy.now.items c.loop-word.copy.items
    (ap (λ m. first m c.args.bytes.now c.loop-word.place) (tests_left test_of words i Word c.loop-word-test.true)) c.in_err-behind.ensures c.loop-word.invariant)

pub loop-word-preserved : goal.loop-word-preserved
loop-word-preserved c =
    let words = c.args.tests.now in
    let i = c.loop-word.word-index in
    loop_goes (tested (test_of (get_or words i Word))) (all_tested (map test_of (drop (i + 1) words))) _ _ c.args.bytes.now c.loop-word.place c.in_ok-behind.behind c.args.copy.now.items c.loop-word.copy.items c.copy_tested.new.copy.items
    (ap (λ m. first m c.args.bytes.now c.loop-word.place) (tests_left test_of words i Word c.loop-word-test.true)) c.in_ok-behind.ensures c.loop-word.invariant

pub returns : goal.returns
returns c = loop_ends _ _ c.loop-word.place c.args.copy.now.items c.loop-word.copy.items (tests_done test_of c.args.tests.now c.loop-word.word-index c.args.bytes.now c.loop-word.place c.loop-word-test.false) c.loop-word.invariant
