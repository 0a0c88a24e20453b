use Rattle.std.proofs.Common.{take}
use Rattle.std.specs.List.{flat_map}
use Rattle.pj_rule_sets.specs.Patterns.{pattern_of_property}
use Rattle.pj_xpatterns.specs.Refusing.{AreTaken}
use Rattle.pj_rule_sets.proofs.patterns.judge_properties.Given as goal

abbrev pub invariant-loop-property : goal.invariant-loop-property
invariant-loop-property l = AreTaken (flat_map pattern_of_property (take l.property-index l.properties))
