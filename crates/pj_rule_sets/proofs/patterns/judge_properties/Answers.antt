use Rattle.std.specs.List.{flat_map}
use Rattle.pj_rule_sets.specs.Faults.{HasNoPattern}
use Rattle.pj_rule_sets.specs.Patterns.{pattern_of_property}
use Rattle.pj_rule_sets.proofs.Lists.{none-among, taken-more, weaken}
use Rattle.pj_rule_sets.proofs.patterns.judge_properties.Goals as goal

pub returns-in-Err-clause-refused : goal.returns-in-Err-clause-refused
returns-in-Err-clause-refused c =
    let here = HasNoPattern (pattern_of_property c.property-item.result) in
    let among = HasNoPattern (flat_map pattern_of_property c.args.properties.now) in
    weaken here among
    (none-among pattern_of_property c.args.properties.now c.loop-property.property-index c.property-item.result c.loop-property-test.true c.property-item.is)
    c.in-Err.fault c.in-Err.ensures.refused

pub loop-property-preserved : goal.loop-property-preserved
loop-property-preserved c =
    taken-more pattern_of_property c.args.properties.now c.loop-property.property-index c.property-item.result c.loop-property-test.true c.property-item.is
    c.loop-property.invariant c.in-Ok.ensures.taken
