use Rattle.std.proofs.Common.{◌≡◌, ◌++◌, ◌∷◌, [], map}
use Rattle.std.proofs.lemmas.List.{map_push}
use Rattle.std.proofs.lemmas.Result.{err_from_is_err_and}
use Rattle.pj_format.specs.Format.{first}
use Rattle.pj_format.specs.Fields.{several, u16_as}
use Rattle.pj_format.proofs.Loops.{goes_on, ends, is_done, several_more, several_ends, several_done}
use Rattle.pj_classfile.specs.ClassFile.{views, class_in}
use Rattle.pj_classfile.specs.Passed.{text_at}
use Rattle.pj_classfile.proofs.class.interfaces_of.Goals as goal

pub returns-in_err-item : goal.returns-in_err-item
returns-in_err-item c =
    let p = err_from_is_err_and c.from_residual.result c.from_residual.ensures.1 in
    let e = c.in_err-item.field-0.0 in
    let pool = views c.args.pool.now in
    rw (p.1, p.2) (ends e (map (text_at pool) c.loop.list.items) _ (first (several (u16_as (class_in pool)) c.args.count) c.args.bytes.now c.args.at) (several_ends e (u16_as (class_in pool)) c.args.bytes.now c.args.count c.loop.counter c.loop.place c.loop-test.true c.in_err-item.ensures.value) c.loop.invariant.read)

pub loop-preserved : goal.loop-preserved
loop-preserved c =
    let pool = views c.args.pool.now in
    let n = c.in_ok-item.item in
    let e : map (text_at pool) c.push.new.self.items ≡ map (text_at pool) c.loop.list.items ++ text_at pool n ∷ [] = rw c.in_ok-push.ensures.items (map_push (text_at pool) c.loop.list.items n) in
    record {
      read = rw e (goes_on (map (text_at pool) c.loop.list.items) (text_at pool n) _ _ (first (several (u16_as (class_in pool)) c.args.count) c.args.bytes.now c.args.at) (several_more (u16_as (class_in pool)) c.args.bytes.now c.args.count c.loop.counter c.loop.place (text_at pool n) c.in_ok-item.behind c.loop-test.true c.in_ok-item.ensures.value) c.loop.invariant.read);
      passed = c.in_ok-item.ensures.passed;
    }

pub returns : goal.returns
returns c =
    let pool = views c.args.pool.now in
    is_done (map (text_at pool) c.loop.list.items) c.loop.place _ (first (several (u16_as (class_in pool)) c.args.count) c.args.bytes.now c.args.at) (several_done (u16_as (class_in pool)) c.args.bytes.now c.args.count c.loop.counter c.loop.place c.loop-test.false) c.loop.invariant.read
