use Rattle.std.proofs.Common.{◌≡◌, ◌∙◌, ◌++◌, List, ℕ, Bor, OnOk, ap, flat_map, subst, rules}
use Rattle.pj_reports.specs.Borrowed.{problem_seen, rule_seen}
use Rattle.pj_reports.specs.ReportText.{line_of}
use Rattle.pj_reports.proofs.text_form.put_problem.Goals as goal

pub returns : goal.returns
returns c =
    let p = problem_seen c.args.problem.now in
    let line : flat_map (λ (t : Bor (List ℕ)). t.now) c.as_slice.result.now ≡ line_of (rule_seen c.rule_shown-rule.result) p = search rules in
    subst (λ (t : List ℕ). OnOk c.put_texts.result (c.put_texts.new.text ≡ c.args.text.now ++ t))
    (line ∙ ap (λ row. line_of row p) c.rule_shown-rule.ensures) c.put_texts.ensures
