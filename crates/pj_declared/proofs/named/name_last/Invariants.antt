use Rattle.std.proofs.Common.{◌≡◌}
use Rattle.std.specs.Option.{option_copied}
use Rattle.pj_declared.specs.Rows.{name_last, last_word}
use Rattle.pj_declared.proofs.named.name_last.Given as goal

abbrev pub invariant-loop-word : goal.invariant-loop-word
invariant-loop-word l = last_word (option_copied l.last) l.word-iterator ≡ name_last l.tree l.fn.n
