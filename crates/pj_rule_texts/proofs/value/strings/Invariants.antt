use Rattle.std.proofs.Common.{◌≡◌, map}
use Rattle.pj_xvalue.specs.Items.{String, values_of}
use Rattle.pj_rule_texts.proofs.value.strings.Given as goal

abbrev pub invariant-loop-member : goal.invariant-loop-member
invariant-loop-member l = values_of l.sequence ≡ map String l.yielded
