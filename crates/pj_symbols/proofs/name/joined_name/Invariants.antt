use Rattle.std.proofs.Common.{◌≡◌, ◌++◌}
use Rattle.pj_symbols.specs.Names.{joined_name}
use Rattle.pj_symbols.proofs.name.joined_name.Given as goal

abbrev pub invariant-loop-word : goal.invariant-loop-word
invariant-loop-word l = l.name ++ joined_name l.word-iterator ≡ joined_name l.fn.words
