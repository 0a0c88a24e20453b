-- The value of an attribute of a node.
use Rattle.std.specs.Prelude.{ℕ, Option, Some, List, map}
use Rattle.std.specs.Option.{option_map, option_and_then}
use Rattle.pj_base.specs.WordTable.{value_in}
use Rattle.pj_tree.specs.Tree.{kind_of}
use Rattle.pj_tree.specs.declared.kind.Kind.{Kind}
use Rattle.pj_tree.specs.declared.node.Node.{Node}
use Rattle.pj_parse.specs.Parses.{FileParsed}
use Rattle.pj_properties.specs.Texts.{text_value}
use Rattle.pj_properties.specs.Numbers.{number_value}
use Rattle.pj_properties.specs.Flags.{flag_value}
use Rattle.pj_properties.specs.declared.property.Property.{Property}
use Rattle.pj_properties.specs.declared.property.Property.TheVariants.{Text, Number, Flag}
use Rattle.pj_xvalue.specs.Items.{ItemValue, String, Integer, Boolean}
use Rattle.pj_attrs.specs.Table.{Row, attributes}

-- the value of a property of a node, if it has one
unfoldable pub value_of : Property → FileParsed → Node → Option ItemValue
value_of (Text p) f n = option_map String (text_value p f.tree n)
value_of (Number p) f n = option_map Integer (number_value p f n)
value_of (Flag p) f n = Some (Boolean (flag_value p f n))

abbrev pub names_in : List Row → List (List ℕ)
names_in rows = map (λ row. row.0) rows

-- the property of the attribute of a name, where nodes of the kind have one
abbrev pub property_named : Kind → List ℕ → Option Property
property_named kind name = value_in (attributes kind) name

-- the names of the attributes of a kind, in order
abbrev pub attribute_names : Kind → List (List ℕ)
attribute_names kind = names_in (attributes kind)

abbrev pub value_named : Kind → FileParsed → Node → List ℕ → Option ItemValue
value_named kind f n name = option_and_then (λ property. value_of property f n) (property_named kind name)

-- The value of a node's attribute of a name, and `None` where it has none: no attribute of its kind has the name, or the property tells nothing of the node.
abbrev pub attribute : FileParsed → Node → List ℕ → Option ItemValue
attribute f n name = option_and_then (λ kind. value_named kind f n name) (kind_of f.tree n)
