use Rattle.std.proofs.Common.{◌≡◌, ◌+◌, ◌≤◌, length}
use Rattle.std.specs.Prelude.{filter}
use Rattle.pj_operators.specs.Operators.{is_sign}
use Rattle.pj_operators.proofs.operators.sign_count.Given as goal

abbrev pub invariant-loop-word : goal.invariant-loop-word
invariant-loop-word l = record {
  counted : l.count + length (filter is_sign l.word-iterator) ≡ length (filter is_sign l.fn.words);
  few : l.count + length l.word-iterator ≤ 4294967294;
}
