use Rattle.std.proofs.Common.{◌≡◌, ◌+◌, Some, rules, ap, refl, ◌∙◌, length}
use Rattle.std.proofs.lemmas.List.Elements.{All-pop}
use Rattle.pj_tree.specs.Tree.{Tree}
use Rattle.pj_names.specs.Noting.{tells_noting}
use Rattle.pj_exprtypes.specs.declared.order.Pending.TheVariants as pending
use Rattle.pj_exprtypes.specs.Order.{IsDue, asked_by}
use Rattle.pj_exprtypes.specs.TypeOf.{type_of}
use Rattle.pj_exprtypes.proofs.Due.{adds-as, due-added, due-whole}
use Rattle.pj_exprtypes.proofs.Parts.{part-begin, part-late, part-same, part-stop, part-then}
use Rattle.pj_exprtypes.proofs.Tables.{all-one}
use Rattle.pj_exprtypes.proofs.order.type_variables.Goals as goal

pub returns-in_err-push-clause-asks : goal.returns-in_err-push-clause-asks
returns-in_err-push-clause-asks g c = part-stop (search rules)

pub loop-init : goal.loop-init
loop-init g c =
    let t = c.args.file.now in
    let old = tells_noting c.args.oracle.now.inner.ghost_name c.args.oracle.now.noted.ghost_name c.args.oracle.now.noted.now (g.O.Oracle.tells c.args.oracle.now.inner.now) in
    let count : c.len-count.result ≡ length t.nodes = c.len-count.ensures.value ∙ ap (λ (t : Tree). length t.nodes) c.tree.ensures in
    record {
      asks = part-begin {t = old};
      keeps = c.requires.keeps;
      due = all-one (IsDue t old.is_told old.world (type_of t c.args.n)) c.new-all.result c.push.new.self (pending.Visit c.len-count.result (c.len-count.result + 1) c.args.n) c.new-all.ensures c.in_ok-push.ensures.ok
          (due-whole t old.is_told old.world c.len-count.result c.args.n count c.requires.inside);
    }

pub do_one-requires-clause-inside : goal.do_one-requires-clause-inside
do_one-requires-clause-inside g c =
    let t = c.args.file.now in
    let old = tells_noting c.args.oracle.now.inner.ghost_name c.args.oracle.now.noted.ghost_name c.args.oracle.now.noted.now (g.O.Oracle.tells c.args.oracle.now.inner.now) in
    let due = All-pop (IsDue t old.is_told old.world (type_of t c.args.n)) c.loop.all c.pop.new.self (Some c.in-Some.next) c.in-Some.ensures c.loop.invariant.due in
    due.1.inside

pub returns-in_err-do_one-clause-asks : goal.returns-in_err-do_one-clause-asks
returns-in_err-do_one-clause-asks g c =
    let t = c.args.file.now in
    let old = tells_noting c.args.oracle.now.inner.ghost_name c.args.oracle.now.noted.ghost_name c.args.oracle.now.noted.now (g.O.Oracle.tells c.args.oracle.now.inner.now) in
    let due = All-pop (IsDue t old.is_told old.world (type_of t c.args.n)) c.loop.all c.pop.new.self (Some c.in-Some.next) c.in-Some.ensures c.loop.invariant.due in
    part-then (type_of t c.args.n) (asked_by t c.in-Some.next) due.1.part c.loop.invariant.asks (part-same c.in_err-do_one.ensures.asks (search rules))

pub loop-preserved : goal.loop-preserved
loop-preserved g c =
    let t = c.args.file.now in
    let old = tells_noting c.args.oracle.now.inner.ghost_name c.args.oracle.now.noted.ghost_name c.args.oracle.now.noted.now (g.O.Oracle.tells c.args.oracle.now.inner.now) in
    let here = tells_noting c.loop.oracle.inner.ghost_name c.loop.oracle.noted.ghost_name c.loop.oracle.noted.now (g.O.Oracle.tells c.loop.oracle.inner.now) in
    let whole = type_of t c.args.n in
    let part = asked_by t c.in-Some.next in
    let due = All-pop (IsDue t old.is_told old.world whole) c.loop.all c.pop.new.self (Some c.in-Some.next) c.in-Some.ensures c.loop.invariant.due in
    record {
      asks = part-then whole part due.1.part c.loop.invariant.asks c.in_ok-do_one.ensures.asks;
      keeps = c.in_ok-do_one.ensures.keeps;
      due = due-added t old.is_told old.world part whole c.pop.new.self c.do_one.new.all due.1.part due.0
          (adds-as t here.is_told old.is_told here.world old.world part c.pop.new.self c.do_one.new.all c.loop.invariant.asks.same_told c.loop.invariant.asks.same_world c.in_ok-do_one.ensures.due);
    }

pub returns-clause-asks : goal.returns-clause-asks
returns-clause-asks g c = part-late c.loop.invariant.asks refl
