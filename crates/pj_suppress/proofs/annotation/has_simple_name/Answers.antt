use Rattle.std.proofs.Common.{◌≡◌, ◌∙◌, List, ℕ, Bor, ap, map, rules}
use Rattle.pj_tree.specs.Words.{words_of}
use Rattle.pj_suppress.specs.Annotation.{simple_name}
use Rattle.pj_suppress.specs.Words.{same_texts}
use Rattle.pj_suppress.proofs.annotation.has_simple_name.Goals as goal

pub returns : goal.returns
returns c =
    let wanted : map (λ (word : Bor (List ℕ)). word.now) c.as_slice.result.now ≡ simple_name = search rules in
    c.has_words.ensures ∙ ap (same_texts (words_of c.args.tree.now c.args.n)) wanted
