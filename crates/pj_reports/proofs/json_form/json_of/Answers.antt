use Rattle.std.proofs.Common.{◌≡◌, ◌∙◌, [], ◌∷◌, ◌++◌, ap, List, ℕ, rules, string_bytes}
use Rattle.serde_json.specs.Written.{compact_text, has_float}
use Rattle.pj_reports.proofs.JsonFacts.{report-no_float, report-text}
use Rattle.pj_reports.proofs.json_form.json_of.Goals as goal

pub returns : goal.returns
returns c =
    let value_is = c.in_ok-value.ensures in
    let written = c.in_ok-text.ensures.text (ap has_float value_is ∙ report-no_float c.args.report.now) ∙ ap compact_text value_is in
    let pushed : c.from_vec.result ≡ string_bytes c.in_ok-text.text ++ 10 ∷ [] = search rules in
    pushed ∙ ap (λ (t : List ℕ). t ++ 10 ∷ []) written ∙ report-text c.args.report.now
