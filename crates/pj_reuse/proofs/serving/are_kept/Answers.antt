use Rattle.std.proofs.Common.{rules, ◌≡◌, ◌+◌, ◌∷◌, List, ℕ, map, drop, sym, ap, subst, ◌∙◌}
use Rattle.pj_names.proofs.AskingLaws.{ComesTo, comes-ends, asks-refused, left_from}
use Rattle.pj_reuse.specs.Serving.{are_kept}
use Rattle.pj_reuse.proofs.serving.are_kept.Goals as goal

pub returns-in_err-now : goal.returns-in_err-now
returns-in_err-now g c =
    let answers = map (λ a. (a.0, a.1.value)) c.args.answers.now in
    let names = c.args.names.now in
    let i = c.loop-name.name-index in
    let left : drop i names ≡ c.name-item.result ∷ drop (i + 1) names = left_from names i c.name-item.result c.loop-name-test.true ∙ ap (λ (n : List ℕ). n ∷ drop (i + 1) names) (sym c.name-item.is) in
    let so_far = subst (λ (l : List (List ℕ)). ComesTo (are_kept answers names) (g.O.Oracle.tells c.args.oracle.now) (are_kept answers l) (g.O.Oracle.tells c.loop-name.oracle)) left c.loop-name.invariant in
    let asked = rw c.as_name-name.ensures at c.in_err-now.ensures in
    comes-ends so_far (asks-refused _ asked (search rules))
