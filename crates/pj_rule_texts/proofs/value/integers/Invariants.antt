use Rattle.std.proofs.Common.{◌≡◌, drop}
use Rattle.pj_xvalue.specs.Items.{values_of}
use Rattle.pj_rule_texts.specs.Values.{integers_of}
use Rattle.pj_rule_texts.proofs.Steps.{integers_behind}
use Rattle.pj_rule_texts.proofs.value.integers.Given as goal

abbrev pub invariant-loop-member : goal.invariant-loop-member
invariant-loop-member l = integers_of l.members ≡ integers_behind (values_of l.sequence) (drop l.member-index l.members)
