use Rattle.std.proofs.Common.{◌≡◌, ◌++◌}
use Rattle.pj_outer_names.specs.Imports.{joined}
use Rattle.pj_outer_names.proofs.imports.joined.Given as goal

abbrev pub invariant-loop-word : goal.invariant-loop-word
invariant-loop-word l = l.text ++ joined l.word-iterator ≡ joined l.fn.words
