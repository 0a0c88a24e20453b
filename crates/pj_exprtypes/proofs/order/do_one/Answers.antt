use Rattle.std.proofs.Common.{sym, subst}
use Rattle.std.specs.Prelude.{OnOk}
use Rattle.pj_names.specs.Noting.{tells_noting}
use Rattle.pj_exprtypes.specs.declared.order.Pending.{Pending}
use Rattle.pj_exprtypes.specs.Order.{AddsParts, asked_by}
use Rattle.pj_exprtypes.specs.Parts.{AsksPart}
use Rattle.pj_exprtypes.proofs.order.do_one.Goals as goal

pub returns-in-Visit-clause-due : goal.returns-in-Visit-clause-due
returns-in-Visit-clause-due g c =
    let t = c.args.file.now in
    let old = tells_noting c.args.oracle.now.inner.ghost_name c.args.oracle.now.noted.ghost_name c.args.oracle.now.noted.now (g.O.Oracle.tells c.args.oracle.now.inner.now) in
    subst (λ (p : Pending). OnOk c.visit.result (AddsParts t old.is_told old.world (asked_by t p) c.args.all.now c.visit.new.all)) (sym c.in-Visit.is) c.visit.ensures.due

pub returns-in-Visit-clause-asks : goal.returns-in-Visit-clause-asks
returns-in-Visit-clause-asks g c =
    let t = c.args.file.now in
    let old = tells_noting c.args.oracle.now.inner.ghost_name c.args.oracle.now.noted.ghost_name c.args.oracle.now.noted.now (g.O.Oracle.tells c.args.oracle.now.inner.now) in
    let new = tells_noting c.visit.new.oracle.inner.ghost_name c.visit.new.oracle.noted.ghost_name c.visit.new.oracle.noted.now (g.O.Oracle.tells c.visit.new.oracle.inner.now) in
    subst (λ (p : Pending). AsksPart (asked_by t p) old new c.visit.result) (sym c.in-Visit.is) c.visit.ensures.asks

pub returns-in-Pass-clause-due : goal.returns-in-Pass-clause-due
returns-in-Pass-clause-due g c =
    let t = c.args.file.now in
    let old = tells_noting c.args.oracle.now.inner.ghost_name c.args.oracle.now.noted.ghost_name c.args.oracle.now.noted.now (g.O.Oracle.tells c.args.oracle.now.inner.now) in
    subst (λ (p : Pending). OnOk c.pass.result (AddsParts t old.is_told old.world (asked_by t p) c.args.all.now c.pass.new.all)) (sym c.in-Pass.is) c.pass.ensures.due

pub returns-in-Pass-clause-asks : goal.returns-in-Pass-clause-asks
returns-in-Pass-clause-asks g c =
    let t = c.args.file.now in
    let old = tells_noting c.args.oracle.now.inner.ghost_name c.args.oracle.now.noted.ghost_name c.args.oracle.now.noted.now (g.O.Oracle.tells c.args.oracle.now.inner.now) in
    let new = tells_noting c.pass.new.oracle.inner.ghost_name c.pass.new.oracle.noted.ghost_name c.pass.new.oracle.noted.now (g.O.Oracle.tells c.pass.new.oracle.inner.now) in
    subst (λ (p : Pending). AsksPart (asked_by t p) old new c.pass.result) (sym c.in-Pass.is) c.pass.ensures.asks
