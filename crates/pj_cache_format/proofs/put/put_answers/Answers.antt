use Rattle.std.proofs.Common.{◌+◌, ◌++◌, length, take, subst, ◌∙◌}
use Rattle.std.specs.List.{All}
use Rattle.std.proofs.lemmas.List.Elements.{All-more}
use Rattle.pj_cache_format.specs.Texts.{number, answer_text}
use Rattle.std.proofs.Common.{ap}
use Rattle.pj_cache_format.proofs.Written.{one_more}
use Rattle.pj_cache_format.specs.Fitting.{FitsNamed}
use Rattle.pj_names.specs.declared.answer.Answer.{Answer}
use Rattle.pj_cache_format.proofs.put.put_answers.Goals as goal

pub loop-name-preserved : goal.loop-name-preserved
loop-name-preserved c =
    let xs = c.args.answers.now in
    let at = c.loop-name.name-index in
    let pair = c.loop-name-item.result in
    let here : FitsNamed (pair.0, pair.1.value) = subst (λ (a : Answer). FitsNamed (pair.0, a)) c.deref.ensures c.in_ok-put_answer.ensures.room in
    let fit : All (λ a. FitsNamed (a.0, a.1.value)) (take (at + 1) xs) = All-more (λ a. FitsNamed (a.0, a.1.value)) xs at pair c.loop-name-test.true c.loop-name.invariant.fit (subst (λ a. FitsNamed (a.0, a.1.value)) c.loop-name-item.is here) in
    let put = one_more (λ a. answer_text (a.0, a.1.value)) xs at pair c.args.out.now.items (number (length xs)) c.loop-name.out.items c.put_answer.new.out.items c.loop-name-test.true c.loop-name-item.is c.loop-name.invariant.put (c.in_ok-put_answer.ensures.put ∙ ap (λ (a : Answer). c.loop-name.out.items ++ answer_text (pair.0, a)) c.deref.ensures) in
    record { put = put; fit = fit; room = c.loop-name.invariant.room }
