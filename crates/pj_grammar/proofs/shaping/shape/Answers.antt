use Rattle.std.proofs.Common.{List, map, ◌∙◌, ap, subst}
use Rattle.std.specs.Str.{IsUtf8}
use Rattle.pj_grammar.specs.Words.{TokenSeen, seen, words, spans}
use Rattle.pj_grammar.proofs.TreeOfWords.{is_derived, gives_same}
use Rattle.pj_grammar.proofs.Stretches.{words_are_tokens}
use Rattle.pj_grammar.proofs.shaping.shape.Goals as goal

pub shape_derivation-requires-clause-tokens : goal.shape_derivation-requires-clause-tokens
shape_derivation-requires-clause-tokens c =
    let ts : List TokenSeen = map seen c.args.tokens.now in
    let places = c.as_slice-2.ensures.value ∙ c.in_ok-spans.ensures ∙ ap (λ l. spans (words (map seen l))) c.as_slice.ensures in
    rw c.text.ensures.value (words_are_tokens c.args.source.now.text ts c.as_slice-2.result.now (subst IsUtf8 c.text.ensures.value c.text.utf8) c.requires.tokens places)

pub shape_derivation-requires-clause-derived : goal.shape_derivation-requires-clause-derived
shape_derivation-requires-clause-derived c =
    let ts : List TokenSeen = map seen c.args.tokens.now in
    let places = c.as_slice-2.ensures.value ∙ c.in_ok-spans.ensures ∙ ap (λ l. spans (words (map seen l))) c.as_slice.ensures in
    is_derived ts c.as_slice-2.result.now c.args.derivation.now places c.requires.derived

pub returns : goal.returns
returns c = λ d is.
    let places = c.as_slice-2.ensures.value ∙ c.in_ok-spans.ensures ∙ ap (λ l. spans (words (map seen l))) c.as_slice.ensures in
    gives_same c.text.result.now c.args.source.now.text c.as_slice-2.result.now _ c.java_shapes.result.now _ d c.shape_derivation.result c.text.ensures.value places c.java_shapes.ensures.shapes (c.shape_derivation.ensures.value d is)
