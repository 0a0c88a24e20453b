use Rattle.std.proofs.Common.{◌≡◌, ◌++◌, ◌∷◌}
use Rattle.std.specs.Prelude.{None, Some, []}
use Rattle.std.specs.Option.{option_copied}
use Rattle.std.proofs.lemmas.Result.{err_from_is_err_and}
use Rattle.pj_format.specs.Format.{first}
use Rattle.pj_format.specs.Fields.{several_from}
use Rattle.pj_format.proofs.Loops.{goes_on, ends, is_done, several_from_more, several_from_ends, several_from_done}
use Rattle.pj_cache_format.specs.Answers.{answer}
use Rattle.pj_cache_reading.proofs.Same.{pairs, pairs_push}
use Rattle.pj_old_reading.proofs.answers.several_answers_of.Goals as goal

pub returns-in_err-item : goal.returns-in_err-item
returns-in_err-item c =
    let p = err_from_is_err_and c.from_residual.result c.from_residual.ensures.1 in
    let e = c.in_err-item.field-0.0 in
    rw (p.1, p.2) (ends e (pairs (λ a. a.0) (λ a. a.1.value) c.loop.list.items) _ (first (several_from (answer) c.args.count (None)) c.args.bytes.now c.args.at) (several_from_ends e (answer) c.args.bytes.now c.args.count c.loop.counter (option_copied c.loop.before) c.loop.place c.loop-test.true c.in_err-item.ensures) c.loop.invariant)

pub loop-preserved : goal.loop-preserved
loop-preserved c =
    let item = c.in_ok-item.item in
    let front = pairs (λ a. a.0) (λ a. a.1.value) c.loop.list.items in
    let e : pairs (λ a. a.0) (λ a. a.1.value) c.push.new.self.items ≡ front ++ (item.0, item.1.value) ∷ [] = rw c.in_ok-push.ensures.items (pairs_push (λ a. a.0) (λ a. a.1.value) c.loop.list.items item) in
    rw e (goes_on front (item.0, item.1.value) _ _ (first (several_from answer c.args.count None) c.args.bytes.now c.args.at) (several_from_more answer c.args.bytes.now c.args.count c.loop.counter (option_copied c.loop.before) c.loop.place (item.0, item.1.value) (Some c.in_ok-item.found.now) c.in_ok-item.behind c.loop-test.true c.in_ok-item.ensures) c.loop.invariant)

pub returns : goal.returns
returns c = is_done (pairs (λ a. a.0) (λ a. a.1.value) c.loop.list.items) c.loop.place _ (first (several_from (answer) c.args.count (None)) c.args.bytes.now c.args.at) (several_from_done (answer) c.args.bytes.now c.args.count c.loop.counter (option_copied c.loop.before) c.loop.place c.loop-test.false) c.loop.invariant
