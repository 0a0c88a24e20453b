use Rattle.std.proofs.Common.{◌≡◌, map}
use Rattle.pj_xvalue.specs.Items.{String, values_of}
use Rattle.pj_xpatterns.proofs.matching.strings.Given as goal

abbrev pub invariant-loop-text : goal.invariant-loop-text
invariant-loop-text l = values_of l.items ≡ map String l.yielded
