use Rattle.std.proofs.Common.{◌≡◌, ◌++◌, ◌∷◌, [], ap, sym, ◌∙◌, ◌+◌, drop}
use Rattle.std.proofs.lemmas.Int.{to_z-of_z}
use mir.Syntax.{w32}
use Rattle.pj_xvalue.specs.Items.{Integer, values_of}
use Rattle.pj_rule_texts.specs.Values.{integer_of}
use Rattle.pj_rule_texts.proofs.Steps.{integers_all, integers_behind, integers_more, integers_none, integers_past}
use Rattle.pj_rule_texts.proofs.value.integers.Goals as goal

pub loop-member-init : goal.loop-member-init
loop-member-init c =
    sym (integers_all c.args.members.now) ∙ ap (λ sequence. integers_behind (values_of sequence) c.args.members.now) (sym c.new-sequence.ensures)

pub loop-member-preserved : goal.loop-member-preserved
loop-member-preserved c =
    let done = c.loop-member.sequence in
    let i = c.loop-member.member-index in
    let members = c.args.members.now in
    let m = c.member-item.result in
    let number = c.in-Some.number in
    let pushed : values_of c.put_integer.new.sequence ≡ values_of done ++ Integer number ∷ [] =
    c.in_ok-put_integer-in-Some.ensures ∙ ap (λ z. values_of done ++ Integer z ∷ []) (to_z-of_z w32 number c.in-Some.ensures.fits) in
    c.loop-member.invariant
    ∙ integers_more (values_of done) members i m number c.loop-member-test.true c.member-item.is (sym (c.in-Some.ensures.value ∙ ap (integer_of 31) c.as_str.ensures))
    ∙ ap (λ sequence. integers_behind sequence (drop (i + 1) members)) (sym pushed)

pub returns-in-None : goal.returns-in-None
returns-in-None c =
    sym (c.loop-member.invariant
    ∙ integers_none (values_of c.loop-member.sequence) c.args.members.now c.loop-member.member-index c.member-item.result c.loop-member-test.true c.member-item.is
    (sym (c.in-None.ensures.value ∙ ap (integer_of 31) c.as_str.ensures)))

pub returns : goal.returns
returns c =
    sym (c.loop-member.invariant ∙ integers_past (values_of c.loop-member.sequence) c.args.members.now c.loop-member.member-index c.loop-member-test.false)
