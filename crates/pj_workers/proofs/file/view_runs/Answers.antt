use Rattle.std.proofs.Common.{◌<◌, ◌∙◌, List, ap, length, rules, subst, sym}
use Rattle.std.specs.List.{All}
use Rattle.pj_names.proofs.AskingLaws.{asks-stop}
use Rattle.pj_reports.specs.declared.ruled.Head.TheVariants.{Package}
use Rattle.pj_rule_sets.specs.Rules.{EffectiveRule}
use Rattle.pj_workers.proofs.Rows.{marked_rules}
use Rattle.pj_workers.proofs.file.view_runs.Goals as goal

pub returns-in_err-head-clause-asks : goal.returns-in_err-head-clause-asks
returns-in_err-head-clause-asks g c = λ meant are. asks-stop (search rules)

pub rule_runs-requires-clause-numbers : goal.rule_runs-requires-clause-numbers
rule_runs-requires-clause-numbers g c = subst (λ (l : List EffectiveRule). All (λ n. n < length l) c.args.which.now) (sym (c.as_slice.ensures ∙ c.rules.ensures)) c.requires.numbers

pub returns-in_err-runs-clause-asks : goal.returns-in_err-runs-clause-asks
returns-in_err-runs-clause-asks g c = λ meant are.
    let of = marked_rules c.args.rules.now c.args.file.now.marker.now c.as_slice.result.now meant (c.as_slice.ensures ∙ c.rules.ensures) c.requires.marker are in
    let asked = c.in_err-runs.ensures.asks meant of in
    search rules

pub returns-clause-asks : goal.returns-clause-asks
returns-clause-asks g c = λ meant are.
    c.in_ok-runs.ensures.asks meant (marked_rules c.args.rules.now c.args.file.now.marker.now c.as_slice.result.now meant (c.as_slice.ensures ∙ c.rules.ensures) c.requires.marker are)

pub returns-clause-runs : goal.returns-clause-runs
returns-clause-runs g c = record {
  head = c.in_ok-head.ensures ∙ ap Package c.requires.name;
  runs = λ meant are.
      c.in_ok-runs.ensures.rest meant (marked_rules c.args.rules.now c.args.file.now.marker.now c.as_slice.result.now meant (c.as_slice.ensures ∙ c.rules.ensures) c.requires.marker are);
}
