use Rattle.std.proofs.Common.{◌+◌, take, subst}
use Rattle.std.specs.List.{All}
use Rattle.std.proofs.lemmas.List.Elements.{All-more}
use Rattle.pj_rule_keys.specs.Keys.{FitsProperty}
use Rattle.pj_rule_keys.proofs.Written.{property_bytes, one_more}
use Rattle.pj_rule_keys.proofs.put.put_properties.Goals as goal

pub loop-property-preserved : goal.loop-property-preserved
loop-property-preserved c =
    let xs = c.args.properties.now in
    let at = c.loop-property.property-index in
    let item = c.property-item.result in
    let fit : All FitsProperty (take (at + 1) xs) = All-more FitsProperty xs at item c.loop-property-test.true c.loop-property.invariant.fit (subst FitsProperty c.property-item.is c.in_ok-put_property.ensures.room) in
    let put = one_more property_bytes xs at item c.args.out.now.items c.loop-property.out.items c.put_property.new.out.items c.loop-property-test.true c.property-item.is c.loop-property.invariant.put c.in_ok-put_property.ensures.put in
    record { put = put; fit = fit }
