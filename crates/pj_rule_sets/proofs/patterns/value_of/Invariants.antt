use Rattle.std.proofs.Common.{◌≡◌, drop}
use Rattle.pj_rule_sets.specs.Patterns.{value_of}
use Rattle.pj_rule_sets.proofs.patterns.value_of.Given as goal

abbrev pub invariant-loop-property : goal.invariant-loop-property
invariant-loop-property l = value_of l.name l.properties ≡ value_of l.name (drop l.property-index l.properties)
