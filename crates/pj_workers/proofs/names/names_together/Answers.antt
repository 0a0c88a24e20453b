use Rattle.std.proofs.Common.{◌≤◌, ◌∙◌, List, add-one, ap, arith, drop, length, suc, sym}
use Rattle.pj_findings.specs.declared.run.RuleRun.{RuleRun}
use Rattle.pj_names.specs.ClassName.{NameSet}
use Rattle.pj_names.specs.Told.{with_names}
use Rattle.pj_names.proofs.AskingLaws.{with_names-append}
use Rattle.pj_workers.specs.Views.{all_names}
use Rattle.pj_workers.proofs.Running.{past, stands}
use Rattle.pj_workers.proofs.names.names_together.Goals as goal

pub loop-run-preserved : goal.loop-run-preserved
loop-run-preserved c =
    let runs = c.args.runs.now in
    let at = stands runs c.loop-run.run-index c.run-item.result c.loop-run-test.true c.run-item.is in
    let before = c.loop-run.noted in
    rw (add-one)
    (ap (λ (s : NameSet). with_names s (all_names (drop (suc c.loop-run.run-index) runs))) c.in_ok-note_all.ensures.ok
    ∙ sym (with_names-append before c.run-item.result.names (all_names (drop (suc c.loop-run.run-index) runs)))
    ∙ ap (λ (l : List RuleRun). with_names before (all_names l)) (sym at.left)
    ∙ c.loop-run.invariant)

pub returns : goal.returns
returns c =
    let far : length c.args.runs.now ≤ c.loop-run.run-index = omega (arith, c.loop-run-test.false) in
    ap (λ (l : List RuleRun). with_names c.loop-run.noted (all_names l)) (sym (past c.args.runs.now c.loop-run.run-index far)) ∙ c.loop-run.invariant
