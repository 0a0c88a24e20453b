use Rattle.std.proofs.Common.{◌≡◌, [], take}
use Rattle.pj_rule_texts.specs.Rules.{put_properties}
use Rattle.pj_rule_texts.proofs.properties.PropertyTable.of.Given as goal

abbrev pub invariant-loop-property : goal.invariant-loop-property
invariant-loop-property l = l.table ≡ put_properties [] (take l.property-index l.properties)
