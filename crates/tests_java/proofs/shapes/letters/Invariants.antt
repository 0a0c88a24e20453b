use Rattle.std.proofs.Common.{◌≤◌, ◌-◌, length}
use Rattle.tests_java.proofs.TestTokens.{Letters}
use Rattle.tests_java.proofs.shapes.letters.Given as goal

abbrev pub invariant-loop-at : goal.invariant-loop-at
invariant-loop-at l = record {
  within : l.at ≤ length l.bytes;
  state : Letters l.text l.at l.tokens.items;
}

abbrev pub decreases-loop-at : goal.decreases-loop-at
decreases-loop-at l = length l.bytes - l.at
