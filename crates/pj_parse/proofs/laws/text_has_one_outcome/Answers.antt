use Rattle.std.proofs.Common.{◌<◌, length, arith}
use Rattle.std.specs.Str.{chars}
use Rattle.pj_grammar.specs.Java17.{java_17_forms}
use Rattle.pj_parse.specs.OneOutcome.{one_of_text}
use Rattle.pj_parse.proofs.laws.text_has_one_outcome.Goals as goal

pub returns : goal.returns
returns c = λ text.
    let some : 0 < length java_17_forms = (let n = c.rules_have_their_numbers.ensures.count in omega arith) in
    let there = c.all_texts_have_tokens.ensures.there 0 (chars text) in
    one_of_text text (c.all_texts_have_tokens.ensures.one 0 (chars text))
    (λ kinds. let r = c.one_outcome.ensures.one_outcome java_17_forms kinds 0 0 c.grammar_is_well_formed.ensures.well_formed some in (r.0, r.1, r.2)) there.0 there.1
