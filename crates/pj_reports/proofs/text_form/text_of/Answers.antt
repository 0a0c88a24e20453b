use Rattle.std.proofs.Common.{◌≡◌, ◌∙◌, ◌++◌, List, ap, append_assoc, flat_map, map, rules, sym}
use Rattle.pj_names.specs.declared.rule_row.ConfigError.{ConfigError}
use Rattle.pj_reports.specs.Borrowed.{problem_seen}
use Rattle.pj_reports.specs.ReportText.{fault_line, problem_line}
use Rattle.pj_reports.specs.Shown.{Bytes, PathError, Problem, errors, problems}
use Rattle.pj_reports.specs.declared.rows.FileRows.{FileRows}
use Rattle.pj_reports.proofs.ShownFacts.{flat_map-map}
use Rattle.pj_reports.proofs.text_form.text_of.Goals as goal

pub returns : goal.returns
returns c =
    let files = c.as_slice-files.result.now in
    let faults = c.as_slice-errors.result.now in
    let shown = c.as_slice.result.now in
    let line : Problem → Bytes = problem_line c.args.report.now.rules in
    let error_line : PathError → Bytes = λ error. fault_line error.path error.message in
    let config_line : ConfigError → Bytes = λ error. fault_line error.rule error.message in
    let a = flat_map line (problems files) in
    let b = flat_map error_line (errors files) in
    let d = flat_map config_line faults in
    let lines : flat_map (λ p. line (problem_seen p)) shown ≡ a =
    sym (flat_map-map line problem_seen shown) ∙ ap (flat_map line) (ap (map problem_seen) c.as_slice.ensures.value ∙ c.in_ok-shown.ensures) in
    let first : c.put_problems.new.text ≡ a = c.in_ok-put_problems.ensures ∙ ap (λ t. t ++ flat_map (λ p. line (problem_seen p)) shown) c.new-text.ensures ∙ lines in
    let second : c.put_errors.new.text ≡ a ++ b = c.in_ok-put_errors.ensures ∙ ap (λ t. t ++ b) first in
    let third : c.put_config_errors.new.text ≡ a ++ b ++ d = c.in_ok-put_config_errors.ensures ∙ ap (λ t. t ++ d) second in
    let moved : c.from_vec.result ≡ c.put_config_errors.new.text = search rules in
    let whole : List (Bytes × FileRows) → List ConfigError → Bytes = λ fs es. flat_map line (problems fs) ++ (flat_map error_line (errors fs) ++ flat_map config_line es) in
    moved ∙ third ∙ append_assoc a b d ∙ ap (λ fs. whole fs faults) c.as_slice-files.ensures
    ∙ ap (λ es. whole c.args.report.now.files es) c.as_slice-errors.ensures
