use Rattle.std.proofs.Common.{◌≡◌, ◌++◌}
use Rattle.pj_parse.specs.Names.{identifiers, texts_of}
use Rattle.pj_parse.proofs.names.identifiers.Given as goal

abbrev pub invariant-loop-word : goal.invariant-loop-word
invariant-loop-word l = texts_of l.names.items ++ identifiers l.word-iterator ≡ identifiers l.fn.words
