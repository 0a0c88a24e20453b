-- Operands: typed values, and the counts and types that operators want (XPath 2.0, 2.4.2, 3.3.1, 3.3.3, 3.4).
use Rattle.std.specs.Prelude.{ℕ, ℤ, List, [], ◌∷◌, flat_map, Option, Some, None, Result, Ok, Err, if◌then◌else◌}
use Rattle.std.specs.List.{slice_get}
use Rattle.pj_tree.specs.declared.node.Node.{Node}
use Rattle.pj_xvalue.specs.declared.fault.XCode.{XCode}
use Rattle.pj_xvalue.specs.declared.fault.XCode.TheVariants.{XPTY0004}
use Rattle.pj_xvalue.specs.Items.{ItemValue, Attribute, are_nodes}
use Rattle.pj_xvalue.specs.Arguments.{optional_integer, atomic_text}
use Rattle.pj_xsteps.specs.Context.{Around}

abbrev pub named_value : (List ℕ → Option ItemValue) → Option (List ℕ) → Option ItemValue
named_value value_of (Some name) = value_of name
named_value value_of None = None

-- the value of a node's attribute by its place among the names, if it has one
abbrev pub value_at : Around → Node → ℕ → Option ItemValue
value_at around n place = named_value (around.attribute_of n) (slice_get (around.names_of n) place)

abbrev pub listed : {A : Type 0} → Option A → List A
listed (Some x) = x ∷ []
listed None = []

-- an item, and in the place of an attribute its value
abbrev pub valued : Around → ItemValue → List ItemValue
valued around (Attribute n place) = listed (value_at around n place)
valued around item = item ∷ []

-- the items, with their values in the place of attributes
abbrev pub with_values : Around → List ItemValue → List ItemValue
with_values around items = flat_map (valued around) items

-- an operand of an arithmetic operator or of `to`: at most one integer
abbrev pub operand : Around → List ItemValue → Result (Option ℤ) XCode
operand around items = optional_integer (with_values around items)

-- an operand of `||`: at most one atomic value, as text
abbrev pub text_operand : Around → List ItemValue → Result (List ℕ) XCode
text_operand around items = atomic_text (with_values around items)

-- an operand of `union`, `intersect` or `except`
abbrev pub only_nodes : List ItemValue → Result (List ItemValue) XCode
only_nodes items = if are_nodes items then Ok items else Err XPTY0004
