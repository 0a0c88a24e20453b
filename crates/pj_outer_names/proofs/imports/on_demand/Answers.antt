use Rattle.std.proofs.Common.{rules, ◌≡◌, ◌++◌, [], ◌∷◌, ap, ◌∙◌}
use Rattle.std.specs.Prelude.{Ok}
use Rattle.pj_names.proofs.AskingLaws.{asks-refused, asks-return, asks-stop, asks-then}
use Rattle.pj_outer_names.specs.Imports.{one_among}
use Rattle.pj_outer_names.proofs.imports.on_demand.Goals as goal

pub returns-in_err-last : goal.returns-in_err-last
returns-in_err-last g c = asks-then _ c.in_ok-hits.ensures (asks-refused _ c.in_err-last.ensures (search rules))

pub returns-in_err-push : goal.returns-in_err-push
returns-in_err-push g c = asks-then _ c.in_ok-hits.ensures (asks-then _ c.in_ok-last.ensures (asks-stop (search rules)))

pub returns-in_err-ty : goal.returns-in_err-ty
returns-in_err-ty g c = asks-then _ c.in_ok-hits.ensures (asks-then _ c.in_ok-last.ensures (asks-stop (search rules)))

pub returns : goal.returns
returns g c =
    let all : c.as_slice.result.now ≡ c.in_ok-hits.hits ++ c.in_ok-last.last ∷ [] = search rules in
    asks-then _ c.in_ok-hits.ensures (asks-then _ c.in_ok-last.ensures (asks-return (ap (λ ty. Ok ty) (c.in_ok-ty.ensures ∙ ap (λ hits. one_among hits) all))))
