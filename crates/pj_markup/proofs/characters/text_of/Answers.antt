use Rattle.std.proofs.Common.{◌≡◌, ◌∙◌, ap, sym, [], ◌∷◌, ◌++◌, take, get_or}
use Rattle.std.specs.Prelude.{encode_utf8}
use Rattle.std.specs.Str.{encode_utf8_all}
use Rattle.std.proofs.lemmas.List.{take_more, append-nil}
use Rattle.std.proofs.lemmas.Str.{encodes-append}
use Rattle.pj_markup.proofs.characters.text_of.Goals as goal

pub loop-c-preserved : goal.loop-c-preserved
loop-c-preserved c =
    let chars = c.args.characters.now in
    let i = c.loop-c.c-index in
    let last : encode_utf8_all (get_or chars i c.c-item.result ∷ []) ≡ encode_utf8 (get_or chars i c.c-item.result) = append-nil (encode_utf8 (get_or chars i c.c-item.result)) in
    c.in_ok-push.ensures.ok ∙ ap (λ t. t ++ encode_utf8 c.c-item.result) c.loop-c.invariant
    ∙ ap (λ x. encode_utf8_all (take i chars) ++ encode_utf8 x) c.c-item.is
    ∙ sym (ap encode_utf8_all (take_more chars i c.c-item.result c.loop-c-test.true) ∙ encodes-append (take i chars) (get_or chars i c.c-item.result ∷ []) ∙ ap (λ x. encode_utf8_all (take i chars) ++ x) last)
