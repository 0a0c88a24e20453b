use Rattle.std.proofs.Common.{refl, ap, ◌∙◌, arith}
use Rattle.pj_names.specs.declared.answer.Answer.{Answer}
use Rattle.pj_reuse.specs.Same.{is_same_answer}
use Rattle.pj_cache.proofs.Paths.{not_both, none_at, none_here, some_here}
use Rattle.pj_reuse.proofs.Answered.{absent, present}
use Rattle.pj_reuse.proofs.current.is_kept.Goals as goal

pub returns-then-place-answers : goal.returns-then-place-answers
returns-then-place-answers c =
    let answers = c.args.answers.now in
    absent (λ a. a.0) (λ a. a.1.value) answers c.args.name.now c.args.current.now
    (none_at (λ a. a.0) answers answers c.args.name.now c.place_of_name-place.result refl c.requires c.place_of_name-place.ensures (omega (arith, c.if-place-answers.true)))

pub returns-then-not-is_here : goal.returns-then-not-is_here
returns-then-not-is_here c =
    let answers = c.args.answers.now in
    absent (λ a. a.0) (λ a. a.1.value) answers c.args.name.now c.args.current.now
    (none_here (λ a. a.0) answers answers c.args.name.now c.place_of_name-place.result c.index-answers-place.result refl c.requires c.place_of_name-place.ensures c.index-answers-place.is
    (λ same. not_both c.is-is_here.result (c.is-is_here.ensures.1 same) c.if-not-is_here.true))

pub returns : goal.returns
returns c =
    let answers = c.args.answers.now in
    c.is_same_answer.ensures ∙ ap (λ (kept : Answer). is_same_answer kept c.args.current.now) c.deref.ensures
    ∙ present (λ a. a.0) (λ a. a.1.value) answers c.args.name.now c.args.current.now c.index-answers-place.result
    (some_here (λ a. a.0) answers answers c.args.name.now c.place_of_name-place.result c.index-answers-place.result refl c.place_of_name-place.ensures (omega (arith, c.if-place-answers.false)) c.index-answers-place.is
    (c.is-is_here.ensures.0 c.if-not-is_here.false))
