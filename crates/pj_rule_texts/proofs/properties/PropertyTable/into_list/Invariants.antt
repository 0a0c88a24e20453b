use Rattle.std.proofs.Common.{◌≡◌, ◌++◌}
use Rattle.pj_rule_texts.specs.Tables.{properties_of}
use Rattle.pj_rule_texts.proofs.properties.PropertyTable.into_list.Given as goal

abbrev pub invariant-loop-name : goal.invariant-loop-name
invariant-loop-name l = l.properties ++ properties_of l.name-iterator ≡ properties_of l.initial.name-iterator
