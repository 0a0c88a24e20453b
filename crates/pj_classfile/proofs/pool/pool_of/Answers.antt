use Rattle.std.proofs.Common.{◌≡◌, ◌++◌, ◌∷◌, [], true}
use Rattle.std.proofs.lemmas.Result.{err_from_is_err_and}
use Rattle.std.proofs.lemmas.List.{map_push}
use Rattle.pj_format.specs.Format.{first}
use Rattle.pj_format.specs.Fields.{several_from}
use Rattle.pj_format.proofs.Loops.{goes_on, ends, is_done, several_from_more, several_from_ends, several_from_done}
use Rattle.pj_classfile.specs.ClassFile.{view, views, slot, slots}
use Rattle.pj_classfile.proofs.pool.pool_of.Goals as goal

pub returns-in_err-constant : goal.returns-in_err-constant
unfolding slots
returns-in_err-constant c =
    let p = err_from_is_err_and c.from_residual.result c.from_residual.ensures.1 in
    let e = c.in_err-constant.field-0.0 in
    rw (p.1, p.2) (ends e (views c.loop.pool.items) _ (first (several_from slot c.args.count true) c.args.bytes.now c.args.at) (several_from_ends e slot c.args.bytes.now c.args.count c.loop.counter c.loop.taken c.loop.place c.loop-test.true c.in_err-constant.ensures) c.loop.invariant)

pub loop-preserved : goal.loop-preserved
loop-preserved c =
    let n = c.in_ok-constant.constant in
    let e : views c.push.new.self.items ≡ views c.loop.pool.items ++ view n ∷ [] = rw c.in_ok-push.ensures.items (map_push _ c.loop.pool.items n) in
    rw e (goes_on (views c.loop.pool.items) (view n) _ _ (first (several_from slot c.args.count true) c.args.bytes.now c.args.at) (several_from_more slot c.args.bytes.now c.args.count c.loop.counter c.loop.taken c.loop.place (view n) c.in_ok-constant.wide c.in_ok-constant.behind c.loop-test.true c.in_ok-constant.ensures) c.loop.invariant)

pub returns : goal.returns
unfolding slots
returns c = is_done (views c.loop.pool.items) c.loop.place _ (first (several_from slot c.args.count true) c.args.bytes.now c.args.at) (several_from_done slot c.args.bytes.now c.args.count c.loop.counter c.loop.taken c.loop.place c.loop-test.false) c.loop.invariant
