-- What clauses see of values that borrow texts or hold items.
use Rattle.std.specs.Prelude.{List, map, Option}
use Rattle.std.specs.Option.{option_map}
use Rattle.std.specs.Borrow.{Bor}
use Rattle.pj_xvalue.specs.declared.item.Item.{Item}
use Rattle.pj_xvalue.specs.Items.{ItemValue, values_of}
use Rattle.pj_rule_texts.specs.Values.{Text}
use Rattle.pj_rule_texts.specs.References as meant
use Rattle.pj_rule_texts.specs.References.{Meant}
use Rattle.pj_rule_texts.specs.declared.reference.Reference.{Reference}
use Rattle.pj_rule_texts.specs.declared.reference.Reference.TheVariants as reference

abbrev pub value_seen : Option (List Item) → Option (List ItemValue)
value_seen value = option_map values_of value

-- variables with their values
abbrev pub variables_seen : List (Text × List Item) → List (Text × List ItemValue)
variables_seen variables = map (λ variable. (variable.0, values_of variable.1)) variables

abbrev pub meant_of : Reference → Meant
meant_of (reference.WholeFile file) = meant.WholeFile file.now
meant_of (reference.OneRule file name) = meant.OneRule file.now name.now

abbrev pub parts_of : Bor Text × Bor Text → Text × Text
parts_of parts = (parts.0.now, parts.1.now)
