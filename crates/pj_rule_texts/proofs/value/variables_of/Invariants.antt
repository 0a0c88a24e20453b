use Rattle.std.proofs.Common.{◌≡◌, take}
use Rattle.std.specs.List.{flat_map}
use Rattle.pj_rule_texts.specs.Seen.{variables_seen}
use Rattle.pj_rule_texts.specs.Values.{variable_of}
use Rattle.pj_rule_texts.proofs.value.variables_of.Given as goal

abbrev pub invariant-loop-property : goal.invariant-loop-property
invariant-loop-property l = variables_seen l.variables ≡ flat_map variable_of (take l.property-index l.properties)
