use Rattle.std.proofs.lemmas.Result.{err_from_is_err_and}
use Rattle.pj_format.specs.Format.{first}
use Rattle.pj_format.specs.Fields.{several}
use Rattle.pj_format.proofs.Loops.{goes_on, ends, is_done, several_more, several_ends, several_done}
use Rattle.pj_old_format.specs.FormatOne.{error}
use Rattle.pj_old_reading.proofs.rows.several_errors_of.Goals as goal

pub returns-in_err-item : goal.returns-in_err-item
returns-in_err-item c =
    let p = err_from_is_err_and c.from_residual.result c.from_residual.ensures.1 in
    let e = c.in_err-item.field-0.0 in
    rw (p.1, p.2) (ends e c.loop.list.items _ (first (several error c.args.count) c.args.bytes.now c.args.at) (several_ends e error c.args.bytes.now c.args.count c.loop.counter c.loop.place c.loop-test.true c.in_err-item.ensures) c.loop.invariant)

pub loop-preserved : goal.loop-preserved
loop-preserved c =
    let n = c.in_ok-item.item in
    rw c.in_ok-push.ensures.items (goes_on c.loop.list.items n _ _ (first (several error c.args.count) c.args.bytes.now c.args.at) (several_more error c.args.bytes.now c.args.count c.loop.counter c.loop.place n c.in_ok-item.behind c.loop-test.true c.in_ok-item.ensures) c.loop.invariant)

pub returns : goal.returns
returns c = is_done c.loop.list.items c.loop.place _ (first (several error c.args.count) c.args.bytes.now c.args.at) (several_done error c.args.bytes.now c.args.count c.loop.counter c.loop.place c.loop-test.false) c.loop.invariant
