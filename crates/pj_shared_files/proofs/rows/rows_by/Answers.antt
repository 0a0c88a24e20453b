use Rattle.std.proofs.Common.{◌≡◌, ◌∙◌, map, subst}
use Rattle.std.specs.Prelude.{IfOk}
use Rattle.pj_cached_files.specs.Asked.{activity, keys_of_set}
use Rattle.pj_cached_files.specs.LeftFiles.{rows_said}
use Rattle.pj_findings.specs.Merged.{merge}
use Rattle.pj_findings.specs.declared.run.RuleRun.{RuleRun}
use Rattle.pj_left_cache.specs.Said.{said_of_rules}
use Rattle.pj_reports.specs.declared.rows.FileRows.{FileRows}
use Rattle.pj_rule_sets.specs.Active.{is_active}
use Rattle.pj_rule_sets.specs.Rules.{EffectiveRule}
use Rattle.pj_shared_files.proofs.rows.rows_by.Goals as goal

pub returns-clause-rows : goal.returns-clause-rows
returns-clause-rows c =
    let set = c.args.run.now.rules.now in
    let entry = c.args.entry.now in
    let active : c.as_slice.result.now ≡ activity set entry.path =
    c.as_slice.ensures ∙ c.in_ok-is_active.ensures ∙ (λ i. map (λ (rule : EffectiveRule). is_active rule (c.path_text.ensures.value i)) ((c.as_slice-rules.ensures ∙ c.rules.ensures) i)) in
    let said : c.in_ok-said.said ≡ said_of_rules entry.results (keys_of_set set) (activity set entry.path) =
    c.in_ok-said.ensures ∙ (λ i. said_of_rules (c.as_slice-results.ensures i) ((c.as_slice-keys.ensures ∙ c.requires) i) (active i)) in
    let made : merge c.in_ok-head.head (map (λ (run : RuleRun). run.rows) c.in_ok-runs.runs) ≡ rows_said set entry = λ i. merge (c.in_ok-head.ensures i) ((c.in_ok-runs.ensures ∙ said) i) in
    subst (λ (x : FileRows). IfOk c.file_rows.result (λ rows. rows ≡ x)) made c.file_rows.ensures
