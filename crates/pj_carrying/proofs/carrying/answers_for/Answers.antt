use Rattle.std.proofs.Common.{map, refl, sym, ap, ◌∙◌}
use Rattle.std.specs.Option.{option_map}
use Rattle.pj_cache.specs.Found.{first_named}
use Rattle.pj_carry.specs.Carried.{answers_for}
use Rattle.pj_carrying.proofs.Answering.{answers_end, answers_step, first_seen}
use Rattle.pj_carrying.proofs.carrying.answers_for.Goals as goal

pub loop-name-preserved : goal.loop-name-preserved
loop-name-preserved c =
    let pairs = c.args.answers.now in
    let all = map (λ a. (a.0, a.1.value)) pairs in
    let names = c.args.names.now in
    let name = c.name-item.result in
    let found = ap (option_map (λ a. (a.0, a.1.value))) (c.answer_for.ensures ∙ ap (λ n. first_named (λ a. a.0) pairs n) c.as_name.ensures) ∙ sym (first_seen (λ a. a.0) (λ a. a.0) (λ a. (a.0, a.1.value)) (λ a. refl) pairs name) in
    answers_step all names c.loop-name.name-index name _ c.loop-name.list c.put_answer.new.list (answers_for all names) c.loop-name-test.true c.name-item.is found c.in_ok-put_answer.ensures c.loop-name.invariant

pub returns : goal.returns
returns c =
    let all = map (λ a. (a.0, a.1.value)) c.args.answers.now in
    answers_end all c.args.names.now c.loop-name.name-index c.loop-name.list (answers_for all c.args.names.now) c.loop-name-test.false c.loop-name.invariant
