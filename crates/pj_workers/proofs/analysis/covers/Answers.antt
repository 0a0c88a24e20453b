use Rattle.std.proofs.Common.{◌≡◌, true, false, Option, Ok, Err, refl, rules, subst, sym}
use Rattle.std.proofs.lemmas.Result.{err_from_is_err_and}
use Rattle.pj_names.proofs.AskingLaws.{asks-return, asks-then}
use Rattle.pj_names.specs.Told.{Asks}
use Rattle.pj_reports.specs.declared.rows.Reason.{Reason}
use Rattle.pj_xsteps.specs.Context.{at}
use Rattle.pj_xsteps.specs.Means.{Means, after}
use Rattle.pj_xvalue.specs.Boolean.{effective_boolean}
use Rattle.pj_xvalue.specs.Items.{Element, values_of}
use Rattle.pj_workers.specs.Reasons.{xpath_reason}
use Rattle.pj_workers.specs.RuleMeaning.{value_of}
use Rattle.pj_workers.specs.Views.{file_seen, rule_seen}
use Rattle.pj_workers.proofs.Evaluating.{covered, covered_by, refused}
use Rattle.pj_workers.proofs.analysis.covers.Goals as goal

pub returns-in_err-value-clause-asks : goal.returns-in_err-value-clause-asks
returns-in_err-value-clause-asks g c =
    let p = err_from_is_err_and c.from_residual.result c.from_residual.ensures.1 in
    rw (p.1, p.2)
    (refused (value_of (g.C.Calls.reply c.args.calls.now) (file_seen c.args.view.now.file.now) (rule_seen c.args.view.now) c.args.spelled.now.expr (at (Element c.args.n) 1 1)) covered
    values_of (λ (reason : Option Reason). reason) c.in_err-value.field-0.0 c.in_err-value.ensures.asks)

pub returns-in_err-boolean_value-clause-asks : goal.returns-in_err-boolean_value-clause-asks
returns-in_err-boolean_value-clause-asks g c =
    let p = err_from_is_err_and c.from_residual-in_err-boolean_value.result c.from_residual-in_err-boolean_value.ensures.1 in
    let u = g.C.Calls.tells c.value_of.new.calls in
    let is : effective_boolean (values_of c.in_ok-value.value) ≡ Err c.in_err-boolean_value.field-0.0 = search rules in
    rw (p.1, p.2)
    (asks-then (after covered) c.in_ok-value.ensures.asks
    (subst (λ (m : Means (Option Reason)). Asks m u u (Ok (Err c.in_err-boolean_value.field-0.0))) (sym (covered_by (values_of c.in_ok-value.value) (Err c.in_err-boolean_value.field-0.0) is)) (asks-return refl)))

pub returns-then-branch-clause-asks : goal.returns-then-branch-clause-asks
returns-then-branch-clause-asks g c =
    let u = g.C.Calls.tells c.value_of.new.calls in
    let is : effective_boolean (values_of c.in_ok-value.value) ≡ Ok true = search rules in
    asks-then (after covered) c.in_ok-value.ensures.asks
    (subst (λ (m : Means (Option Reason)). Asks m u u (Ok (Ok (xpath_reason true)))) (sym (covered_by (values_of c.in_ok-value.value) (Ok true) is)) (asks-return refl))

pub returns-clause-asks : goal.returns-clause-asks
returns-clause-asks g c =
    let u = g.C.Calls.tells c.value_of.new.calls in
    let is : effective_boolean (values_of c.in_ok-value.value) ≡ Ok false = search rules in
    asks-then (after covered) c.in_ok-value.ensures.asks
    (subst (λ (m : Means (Option Reason)). Asks m u u (Ok (Ok (xpath_reason false)))) (sym (covered_by (values_of c.in_ok-value.value) (Ok false) is)) (asks-return refl))
