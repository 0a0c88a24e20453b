use Rattle.std.proofs.Common.{◌≡◌, ◌∙◌, ◌++◌, List, Option, OnOk, map, ap, ap₂, subst}
use Rattle.pj_xexpressions.specs.Expressions.{Written}
use Rattle.pj_xpatterns.specs.Meaning.{Pattern}
use Rattle.pj_xpatterns.specs.Written.{couple, pattern_at, pattern_text, seen_of, variables_of, written_flags}
use Rattle.pj_xpatterns.proofs.own.push_own.Goals as goal

pub returns-in-Some : goal.returns-in-Some
returns-in-Some c =
    let vs = variables_of c.args.variables.now in
    let written = map (λ argument. (seen_of vs argument).written) c.args.arguments.now in
    subst (λ (ps : List Pattern). OnOk c.push_written.result (c.push_written.new.found ≡ c.args.found.now ++ ps))
    (ap₂ (λ (p f : Option Written). couple (pattern_text vs p) (written_flags f)) (c.form_at.ensures vs) (c.form_at-in-Some.ensures vs)
    ∙ ap (λ o. pattern_at vs o written) c.in-Some.ensures)
    c.push_written.ensures
