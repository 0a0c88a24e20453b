-- Atomic values: the texts of atomic values, and sequences that are of atomic values alone.
use Rattle.std.specs.Prelude.{ℕ, Bool, true, false, List, [], Result, Ok, Err, if◌then◌else◌, codes}
use Rattle.std.specs.List.{list_any}
use Rattle.std.specs.Fmt.{signed_decimal}
use Rattle.pj_xvalue.specs.declared.fault.XCode.{XCode}
use Rattle.pj_xvalue.specs.declared.fault.XCode.TheVariants.{FOTY0012}
use Rattle.pj_xvalue.specs.Items.{ItemValue, String, Integer, Boolean, is_node}

-- an atomic value as text (XPath Functions and Operators, 17.1.2), and nothing for a node
abbrev pub text_of : ItemValue → List ℕ
text_of (String text) = text
text_of (Integer z) = signed_decimal z
text_of (Boolean true) = codes "true"
text_of (Boolean false) = codes "false"
text_of _ = []

-- one is a node: the document, an element or an attribute
abbrev pub has_node : List ItemValue → Bool
has_node items = list_any is_node items

-- The typed values of items in which values stand in the place of attributes (XPath 2.0, 2.4.2): an element and the
-- document have none.
abbrev pub only_atomic : List ItemValue → Result (List ItemValue) XCode
only_atomic items = if has_node items then Err FOTY0012 else Ok items
