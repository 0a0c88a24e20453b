use Rattle.std.proofs.Common.{◌≡◌, List, length, map, Ok, Err, ◌⊎◌, ◌∙◌, subst, ap, arith}
use Rattle.std.proofs.lemmas.Result.{err_from_is_err_and}
use Rattle.pj_tree.specs.declared.shape_fault.ShapeFault.TheVariants.{Memory}
use Rattle.pj_peg_grammar.specs.Derives.{DerivesSteps}
use Rattle.pj_shape.specs.ShapedTree.{shaped_tree}
use Rattle.pj_grammar.specs.Java17.{java_17_forms, java_17_shapes}
use Rattle.pj_grammar.specs.Words.{TokenSeen, seen, words, spans, terminals}
use Rattle.pj_parse.specs.Parses.{parsed}
use Rattle.pj_parse.proofs.Outcomes.{fault_of_tokens, many_tokens, has_words, not_derived, derivation_of, tree_faulty, tree_text}
use Rattle.pj_parse.proofs.parsing.parse_by.Goals as goal

pub returns-in_err-tokens : goal.returns-in_err-tokens
returns-in_err-tokens c =
    let p = err_from_is_err_and c.from_residual.result c.from_residual.ensures.1 in
    rw (p.1, p.2) (record { text = tt; pool = tt; pool_texts = tt; parses = fault_of_tokens c.args.source.now.text c.in_err-tokens.field-0.0 c.in_err-tokens.ensures.tokens })

pub returns-then-len-gt-MOST_WORDS : goal.returns-then-len-gt-MOST_WORDS
returns-then-len-gt-MOST_WORDS c =
    let ts : List TokenSeen = map seen c.in_ok-tokens.tokens in
    let kinds = c.in_ok-terminals.ensures.terminals ∙ ap (λ l. terminals (words (map seen l))) c.as_slice.ensures in
    record {
      text = tt;
      pool = tt;
      pool_texts = tt;
      parses = many_tokens c.args.source.now.text ts c.in_ok-terminals.terminals.items c.in_ok-tokens.ensures.tokens kinds c.len-then-len-gt-MOST_WORDS.result (omega arith) (omega arith);
    }

pub returns-in_err-derivation : goal.returns-in_err-derivation
returns-in_err-derivation c =
    let p = err_from_is_err_and c.from_residual-in_err-derivation.result c.from_residual-in_err-derivation.ensures.1 in
    let ts : List TokenSeen = map seen c.in_ok-tokens.tokens in
    let kinds = c.as_slice-2.ensures.value ∙ c.in_ok-terminals.ensures.terminals ∙ ap (λ l. terminals (words (map seen l))) c.as_slice.ensures in
    let has = has_words c.args.source.now.text ts c.as_slice-2.result.now c.in_ok-tokens.ensures.tokens kinds (let l = ap length c.as_slice-2.ensures.value in omega arith) in
    rw (p.1, p.2) (record { text = tt; pool = tt; pool_texts = tt; parses = not_derived c.args.source.now.text ts c.as_slice-2.result.now c.in_err-derivation.field-0.0 has kinds c.in_err-derivation.ensures.fails })

pub shape-requires-clause-derived : goal.shape-requires-clause-derived
shape-requires-clause-derived c =
    let kinds = c.as_slice-2.ensures.value ∙ c.in_ok-terminals.ensures.terminals ∙ ap (λ l. terminals (words (map seen l))) c.as_slice.ensures in
    subst (λ l. DerivesSteps java_17_forms l c.in_ok-derivation.derivation) kinds c.in_ok-derivation.ensures.derives

pub returns-in-Ok : goal.returns-in-Ok
returns-in-Ok c =
    let ts : List TokenSeen = map seen c.in_ok-tokens.tokens in
    let kinds = c.as_slice-2.ensures.value ∙ c.in_ok-terminals.ensures.terminals ∙ ap (λ l. terminals (words (map seen l))) c.as_slice.ensures in
    let has = has_words c.args.source.now.text ts c.as_slice-2.result.now c.in_ok-tokens.ensures.tokens kinds (let l = ap length c.as_slice-2.ensures.value in omega arith) in
    let d : DerivesSteps java_17_forms c.as_slice-2.result.now c.in_ok-derivation.derivation = c.in_ok-derivation.ensures.derives in
    let derivation = derivation_of c.args.source.now.text ts c.as_slice-2.result.now c.in_ok-derivation.derivation has kinds d in
    let tree : shaped_tree c.args.source.now.text (spans (words ts)) java_17_shapes d.1 ≡ Ok c.in-Ok.tree = c.in-Ok.ensures d.1 d.3 in
    record {
      text = tree_text c.args.source.now.text (spans (words ts)) java_17_shapes d.1 c.in-Ok.tree tree;
      pool = c.in_ok-pool-in-Ok.ensures.value;
      pool_texts = c.in_ok-pool-in-Ok.ensures.texts;
      parses = parsed ts d.1 c.in-Ok.tree derivation tree;
    }

pub returns : goal.returns
returns c =
    let ts : List TokenSeen = map seen c.in_ok-tokens.tokens in
    let kinds = c.as_slice-2.ensures.value ∙ c.in_ok-terminals.ensures.terminals ∙ ap (λ l. terminals (words (map seen l))) c.as_slice.ensures in
    let has = has_words c.args.source.now.text ts c.as_slice-2.result.now c.in_ok-tokens.ensures.tokens kinds (let l = ap length c.as_slice-2.ensures.value in omega arith) in
    let d : DerivesSteps java_17_forms c.as_slice-2.result.now c.in_ok-derivation.derivation = c.in_ok-derivation.ensures.derives in
    let derivation = derivation_of c.args.source.now.text ts c.as_slice-2.result.now c.in_ok-derivation.derivation has kinds d in
    let faulty : (c.in-Err.fault ≡ Memory) ⊎ (shaped_tree c.args.source.now.text (spans (words ts)) java_17_shapes d.1 ≡ Err c.in-Err.fault) = c.in-Err.ensures d.1 d.3 in
    record { text = tt; pool = tt; pool_texts = tt; parses = tree_faulty c.args.source.now.text ts d.1 c.in-Err.fault c.from.result derivation c.from.ensures faulty }
