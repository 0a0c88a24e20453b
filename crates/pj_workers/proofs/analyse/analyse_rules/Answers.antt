use Rattle.std.proofs.Common.{◌≡◌, ◌<◌, ℕ, List, length, subst, sym}
use Rattle.std.specs.Prelude.{IfOk}
use Rattle.std.specs.List.{All, AllZip}
use Rattle.std.proofs.lemmas.Result.{IfOk-weaker}
use Rattle.pj_parse.specs.FileOutcome.{outcome_of}
use Rattle.pj_workers.specs.Chosen.{chosen}
use Rattle.pj_workers.specs.FileMeaning.{head_of, rule_meaning}
use Rattle.pj_workers.specs.JavaReplies.{java_replies}
use Rattle.pj_workers.specs.Results.{RestsOn, rules_in}
use Rattle.pj_workers.specs.Rules.{AreRulesOf, Rule}
use Rattle.pj_workers.specs.Views.{AreRunsOf, AsksOf}
use Rattle.pj_workers.specs.declared.result.FileRuns.{FileRuns}
use Rattle.pj_workers.proofs.analyse.analyse_rules.Goals as goal

pub bytes_runs-requires-clause-numbers : goal.bytes_runs-requires-clause-numbers
bytes_runs-requires-clause-numbers g c = subst (λ (l : List ℕ). All (λ n. n < length c.args.rules.now.rules) l) (sym c.as_slice.ensures) c.requires.numbers

pub returns-clause-asks : goal.returns-clause-asks
returns-clause-asks g c =
    subst (λ (l : List ℕ). AsksOf c.args.rules.now l c.args.path.now (outcome_of c.args.bytes.now) (g.O.Oracle.tells c.args.oracle.now) (g.O.Oracle.tells c.bytes_runs.new.oracle) c.bytes_runs.result)
    c.as_slice.ensures c.bytes_runs.ensures.asks

pub returns-clause-head : goal.returns-clause-head
returns-clause-head g c =
    IfOk-weaker c.bytes_runs.result (AreRunsOf c.args.rules.now c.as_slice.result.now c.args.path.now (outcome_of c.args.bytes.now) (g.O.Oracle.tells c.args.oracle.now))
    (λ (found : FileRuns). found.head ≡ head_of (outcome_of c.args.bytes.now)) (λ found runs. runs.head) c.bytes_runs.ensures.runs

pub returns-clause-found : goal.returns-clause-found
returns-clause-found g c =
    let t = g.O.Oracle.tells c.args.oracle.now in
    let outcome = outcome_of c.args.bytes.now in
    IfOk-weaker c.bytes_runs.result (AreRunsOf c.args.rules.now c.args.which.now c.args.path.now outcome t)
    (λ (found : FileRuns). (meant : List Rule) → AreRulesOf c.args.rules.now meant
    → AllZip (λ rule run. RestsOn t (rule_meaning java_replies c.args.path.now c.args.bytes.now rule) run.rows run.names) (rules_in outcome (chosen c.args.which.now meant)) found.runs)
    (λ found runs. runs.runs)
    (subst (λ (l : List ℕ). IfOk c.bytes_runs.result (AreRunsOf c.args.rules.now l c.args.path.now outcome t)) c.as_slice.ensures c.bytes_runs.ensures.runs)
