use Rattle.std.proofs.Common.{ap, ◌∙◌}
use Rattle.pj_rule_texts.specs.Rules.{put_property}
use Rattle.pj_rule_texts.proofs.Steps.{put_properties-turn}
use Rattle.pj_rule_texts.proofs.properties.PropertyTable.of.Goals as goal

pub loop-property-preserved : goal.loop-property-preserved
loop-property-preserved c =
    put_properties-turn c.args.properties.now c.loop-property.property-index c.property-item.result c.loop-property.table _ c.loop-property.invariant
    (c.in_ok-put.ensures ∙ ap (put_property c.loop-property.table) c.in_ok-copied.ensures) c.loop-property-test.true c.property-item.is
