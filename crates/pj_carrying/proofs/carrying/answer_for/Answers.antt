use Rattle.std.proofs.Common.{refl, sym, arith}
use Rattle.pj_cache.proofs.Paths.{not_both, none_at, none_here, some_here}
use Rattle.pj_carrying.proofs.carrying.answer_for.Goals as goal

pub returns-then-place-answers : goal.returns-then-place-answers
returns-then-place-answers c =
    let answers = c.args.answers.now in
    sym (none_at (λ a. a.0) answers answers c.args.name.now c.place_of_name-place.result refl c.requires c.place_of_name-place.ensures (omega (arith, c.if-place-answers.true)))

pub returns-then-not-is_here : goal.returns-then-not-is_here
returns-then-not-is_here c =
    let answers = c.args.answers.now in
    sym (none_here (λ a. a.0) answers answers c.args.name.now c.place_of_name-place.result c.index-answers-place.result refl c.requires c.place_of_name-place.ensures c.index-answers-place.is
    (λ same. not_both c.is-is_here.result (c.is-is_here.ensures.1 same) c.if-not-is_here.true))

pub returns : goal.returns
returns c =
    let answers = c.args.answers.now in
    sym (some_here (λ a. a.0) answers answers c.args.name.now c.place_of_name-place.result c.index-answers-place.result refl c.place_of_name-place.ensures (omega (arith, c.if-place-answers.false)) c.index-answers-place.is
    (c.is-is_here.ensures.0 c.if-not-is_here.false))
