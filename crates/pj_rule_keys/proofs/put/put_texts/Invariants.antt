use Rattle.std.proofs.Common.{◌≡◌, ◌++◌, take}
use Rattle.std.specs.List.{flat_map, All}
use Rattle.pj_rule_keys.specs.Keys.{spelled, HasRoom}
use Rattle.pj_rule_keys.proofs.put.put_texts.Given as goal

abbrev pub invariant-loop-text : goal.invariant-loop-text
invariant-loop-text l = record { put : l.out.items ≡ l.fn.out.items ++ flat_map spelled (take l.text-index l.texts); fit : All HasRoom (take l.text-index l.texts) }
