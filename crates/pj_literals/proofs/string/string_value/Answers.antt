use Rattle.std.proofs.Common.{◌≡◌, ◌∙◌, ap, sym, subst, cond, true, false, IfOk, ℕ, List, rules}
use Rattle.std.specs.Str.{chars, encode_utf8_all}
use Rattle.std.proofs.lemmas.Str.{chars_from_encodes}
use Rattle.pj_literals.specs.Escapes.{interpreted}
use Rattle.pj_literals.specs.TextBlock.{text_block}
use Rattle.pj_literals.specs.StringValue.{is_text_block, between_delimiters, string_value}
use Rattle.pj_literals.proofs.string.string_value.Goals as goal

pub returns-then-starts_with : goal.returns-then-starts_with
returns-then-starts_with c =
    let cs = chars c.args.text.now in
    let word : c.in_ok-word.word.items ≡ cs = search (rules, chars_from_encodes) in
    let is : is_text_block cs ≡ true = ap is_text_block (sym (c.deref.ensures.value ∙ word)) ∙ sym c.starts_with.ensures.value ∙ c.if-starts_with.true in
    let content : c.deref-then-starts_with-2.result.now ≡ text_block cs =
    c.deref-then-starts_with-2.ensures.value ∙ c.in_ok-content.ensures ∙ ap text_block (c.deref-then-starts_with.ensures.value ∙ word) in
    let value : interpreted c.deref-then-starts_with-2.result.now ≡ string_value cs =
    ap interpreted (content ∙ ap (λ b. cond b (text_block cs) (between_delimiters cs)) (sym is)) in
    record { value = subst (λ (x : List ℕ). IfOk c.interpreted.result (λ made. made ≡ encode_utf8_all x)) value c.interpreted.ensures }

pub returns : goal.returns
returns c =
    let cs = chars c.args.text.now in
    let word : c.in_ok-word.word.items ≡ cs = search (rules, chars_from_encodes) in
    let is : is_text_block cs ≡ false = ap is_text_block (sym (c.deref.ensures.value ∙ word)) ∙ sym c.starts_with.ensures.value ∙ c.if-starts_with.false in
    let content : c.between_delimiters.result.now ≡ between_delimiters cs = c.between_delimiters.ensures ∙ ap between_delimiters (c.deref-else-starts_with.ensures.value ∙ word) in
    let value : interpreted c.between_delimiters.result.now ≡ string_value cs =
    ap interpreted (content ∙ ap (λ b. cond b (text_block cs) (between_delimiters cs)) (sym is)) in
    record { value = subst (λ (x : List ℕ). IfOk c.interpreted-else-starts_with.result (λ made. made ≡ encode_utf8_all x)) value c.interpreted-else-starts_with.ensures }
