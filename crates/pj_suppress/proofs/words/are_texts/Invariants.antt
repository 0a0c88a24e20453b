use Rattle.std.proofs.Common.{◌≡◌, drop, map}
use Rattle.pj_suppress.specs.Words.{same_texts}
use Rattle.pj_suppress.proofs.words.are_texts.Given as goal

abbrev pub invariant-loop-word : goal.invariant-loop-word
invariant-loop-word l = same_texts l.words (map (λ word. word.now) (drop l.word-index l.wanted)) ≡ same_texts l.initial.words (map (λ word. word.now) l.wanted)
