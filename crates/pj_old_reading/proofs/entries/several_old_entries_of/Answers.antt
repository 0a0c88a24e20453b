use Rattle.std.specs.Prelude.{None, Some}
use Rattle.std.specs.Option.{option_copied}
use Rattle.std.proofs.lemmas.Result.{err_from_is_err_and}
use Rattle.pj_format.specs.Format.{first}
use Rattle.pj_format.specs.Fields.{several_from}
use Rattle.pj_format.proofs.Loops.{goes_on, ends, is_done, several_from_more, several_from_ends, several_from_done}
use Rattle.pj_old_format.specs.FormatOne.{old_entry}
use Rattle.pj_old_reading.proofs.entries.several_old_entries_of.Goals as goal

pub returns-in_err-item : goal.returns-in_err-item
returns-in_err-item c =
    let p = err_from_is_err_and c.from_residual.result c.from_residual.ensures.1 in
    let e = c.in_err-item.field-0.0 in
    rw (p.1, p.2) (ends e c.loop.list.items _ (first (several_from (old_entry c.args.names.now) c.args.count (None)) c.args.bytes.now c.args.at) (several_from_ends e (old_entry c.args.names.now) c.args.bytes.now c.args.count c.loop.counter (option_copied c.loop.before) c.loop.place c.loop-test.true c.in_err-item.ensures) c.loop.invariant)

pub loop-preserved : goal.loop-preserved
loop-preserved c =
    rw c.in_ok-push.ensures.items (goes_on c.loop.list.items c.in_ok-item.item _ _ (first (several_from (old_entry c.args.names.now) c.args.count (None)) c.args.bytes.now c.args.at) (several_from_more (old_entry c.args.names.now) c.args.bytes.now c.args.count c.loop.counter (option_copied c.loop.before) c.loop.place c.in_ok-item.item (Some c.in_ok-item.found.now) c.in_ok-item.behind c.loop-test.true c.in_ok-item.ensures) c.loop.invariant)

pub returns : goal.returns
returns c = is_done c.loop.list.items c.loop.place _ (first (several_from (old_entry c.args.names.now) c.args.count (None)) c.args.bytes.now c.args.at) (several_from_done (old_entry c.args.names.now) c.args.bytes.now c.args.count c.loop.counter (option_copied c.loop.before) c.loop.place c.loop-test.false) c.loop.invariant
