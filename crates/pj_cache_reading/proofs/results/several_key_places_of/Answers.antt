use Rattle.std.proofs.Common.{◌<◌}
use Rattle.std.specs.Prelude.{Some}
use Rattle.std.proofs.lemmas.Result.{err_from_is_err_and}
use Rattle.std.proofs.lemmas.List.Elements.{All-push}
use Rattle.pj_format.specs.Format.{first}
use Rattle.pj_format.specs.Fields.{several_from}
use Rattle.pj_format.proofs.Loops.{goes_on, ends, is_done, several_from_more, several_from_ends, several_from_done}
use Rattle.pj_cache_format.specs.FormatTwo.{key_place}
use Rattle.pj_cache_reading.proofs.results.several_key_places_of.Goals as goal

pub returns-in_err-item-clause-value : goal.returns-in_err-item-clause-value
returns-in_err-item-clause-value c =
    let p = err_from_is_err_and c.from_residual.result c.from_residual.ensures.1 in
    let e = c.in_err-item.field-0.0 in
    let item = key_place c.args.key_count c.args.used.now.keys in
    rw (p.1, p.2) (ends e c.loop.list.items _ (first (several_from item c.args.count c.args.before) c.args.bytes.now c.args.at) (several_from_ends e item c.args.bytes.now c.args.count c.loop.counter c.loop.last c.loop.place c.loop-test.true c.in_err-item.ensures.value) c.loop.invariant.read)

pub loop-preserved : goal.loop-preserved
loop-preserved c =
    let n = c.in_ok-item.item in
    let item = key_place c.args.key_count c.args.used.now.keys in
    record {
      read = rw c.in_ok-push.ensures.items (goes_on c.loop.list.items n _ _ (first (several_from item c.args.count c.args.before) c.args.bytes.now c.args.at) (several_from_more item c.args.bytes.now c.args.count c.loop.counter c.loop.last c.loop.place n (Some n) c.in_ok-item.behind c.loop-test.true c.in_ok-item.ensures.value) c.loop.invariant.read);
      there = rw c.in_ok-push.ensures.items (All-push (λ p. p < c.args.key_count) c.loop.list.items n c.loop.invariant.there c.in_ok-item.ensures.there);
    }

pub returns-clause-value : goal.returns-clause-value
returns-clause-value c =
    let item = key_place c.args.key_count c.args.used.now.keys in
    is_done c.loop.list.items c.loop.place _ (first (several_from item c.args.count c.args.before) c.args.bytes.now c.args.at) (several_from_done item c.args.bytes.now c.args.count c.loop.counter c.loop.last c.loop.place c.loop-test.false) c.loop.invariant.read
