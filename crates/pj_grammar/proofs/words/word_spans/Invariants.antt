use Rattle.std.proofs.Common.{◌≡◌, map, take}
use Rattle.pj_grammar.specs.Words.{seen, words, spans}
use Rattle.pj_grammar.proofs.words.word_spans.Given as goal

abbrev pub invariant-loop-token : goal.invariant-loop-token
invariant-loop-token l = l.found.items ≡ spans (words (map seen (take l.token-index l.tokens)))
