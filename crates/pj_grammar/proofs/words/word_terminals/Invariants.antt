use Rattle.std.proofs.Common.{◌≡◌, ◌≤◌, length, map, take}
use Rattle.pj_grammar.specs.Words.{seen, words, terminals}
use Rattle.pj_grammar.proofs.words.word_terminals.Given as goal

abbrev pub invariant-loop-token : goal.invariant-loop-token
invariant-loop-token l = (l.found.items ≡ terminals (words (map seen (take l.token-index l.tokens))) × (length l.found.items ≤ l.token-index))
