use Rattle.std.proofs.Common.{◌≡◌, ◌++◌, take}
use Rattle.std.specs.List.{flat_map, All}
use Rattle.pj_rule_keys.specs.Keys.{spelled, FitsProperty}
use Rattle.pj_rule_keys.proofs.put.put_properties.Given as goal

abbrev pub invariant-loop-property : goal.invariant-loop-property
invariant-loop-property l = record {
  put : l.out.items ≡ l.fn.out.items ++ flat_map (λ p. spelled p.name ++ (spelled p.kind ++ spelled p.value)) (take l.property-index l.properties);
  fit : All FitsProperty (take l.property-index l.properties);
}
