use Rattle.std.proofs.Common.{◌+◌, get_or, drop}
use Rattle.std.proofs.lemmas.Result.{err_from_is_err_and}
use Rattle.pj_format.specs.Format.{first}
use Rattle.pj_format.specs.Fields.{each}
use Rattle.pj_format.proofs.Loops.{goes_on, ends, is_done, each_more, each_ends, each_done}
use Rattle.pj_cache_format.specs.FormatTwo.{key_rows}
use Rattle.pj_cache_reading.proofs.Texts.{left_at}
use Rattle.pj_cache_reading.proofs.results.group_of.Goals as goal

pub returns-in_err-item : goal.returns-in_err-item
returns-in_err-item c =
    let p = err_from_is_err_and c.from_residual.result c.from_residual.ensures.1 in
    let e = c.in_err-item.field-0.0 in
    let item = key_rows c.args.keys.now in
    let places = c.args.places.now in
    let i = c.loop-place.place-index in
    rw (p.1, p.2) (ends e c.loop-place.list.items _ (first (each item places) c.args.bytes.now c.args.at) (each_ends e item c.args.bytes.now (drop i places) (get_or places i 0) (drop (i + 1) places) c.loop-place.from (left_at places i c.loop-place-test.true) c.in_err-item.ensures) c.loop-place.invariant)

pub loop-place-preserved : goal.loop-place-preserved
loop-place-preserved c =
    let n = c.in_ok-item.item in
    let item = key_rows c.args.keys.now in
    let places = c.args.places.now in
    let i = c.loop-place.place-index in
    rw c.in_ok-push.ensures.items (goes_on c.loop-place.list.items n _ _ (first (each item places) c.args.bytes.now c.args.at) (each_more item c.args.bytes.now (drop i places) (get_or places i 0) (drop (i + 1) places) c.loop-place.from n c.in_ok-item.behind (left_at places i c.loop-place-test.true) c.in_ok-item.ensures) c.loop-place.invariant)

pub returns : goal.returns
returns c =
    let item = key_rows c.args.keys.now in
    is_done c.loop-place.list.items c.loop-place.from _ (first (each item c.args.places.now) c.args.bytes.now c.args.at) (each_done item c.args.bytes.now c.args.places.now c.loop-place.place-index c.loop-place.from c.loop-place-test.false) c.loop-place.invariant
