use Rattle.std.proofs.Common.{◌≡◌}
use Rattle.pj_tree.specs.Words.{has}
use Rattle.pj_tree.proofs.words.has.Given as goal

abbrev pub invariant-loop-word : goal.invariant-loop-word
invariant-loop-word l = has l.text l.word-iterator ≡ has l.text l.fn.words
