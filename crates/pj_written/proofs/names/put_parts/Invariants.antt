use Rattle.std.proofs.Common.{◌≡◌, ◌++◌}
use Rattle.pj_written.specs.Names.{own_parts}
use Rattle.pj_written.proofs.names.put_parts.Given as goal

abbrev pub invariant-loop-word : goal.invariant-loop-word
invariant-loop-word l = l.parts ++ own_parts l.word-iterator ≡ l.fn.parts ++ own_parts l.fn.words
