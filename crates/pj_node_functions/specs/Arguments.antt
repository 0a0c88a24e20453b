-- What the functions of PMD take of an argument.
use Rattle.std.specs.Prelude.{ℕ, List, [], ◌∷◌, Option, Result, Ok, Err}
use Rattle.pj_tree.specs.declared.node.Node.{Node}
use Rattle.pj_xvalue.specs.declared.fault.XCode.{XCode}
use Rattle.pj_xvalue.specs.declared.fault.XCode.TheVariants.{XPTY0004}
use Rattle.pj_xvalue.specs.Arguments.{Text, optional_string}
use Rattle.pj_xvalue.specs.Items.{ItemValue, Element}
use Rattle.pj_xsteps.specs.Context.{Around, around}
use Rattle.pj_xsteps.specs.Operands.{with_values}

-- one element, which is a node of the tree
abbrev pub one_node : List ItemValue → Result Node XCode
one_node (Element n ∷ []) = Ok n
one_node _ = Err XPTY0004

module _ (attribute_of : Node → List ℕ → Option ItemValue) (names_of : Node → List (List ℕ)) where
  -- What is around an argument: which value stands in the place of an attribute is told by the attributes alone, whatever the tree and the patterns are.
  abbrev pub around_argument : Around
  around_argument = around (record { text = []; nodes = [] }) attribute_of names_of []

  -- `xs:string?`, where nothing is the empty string; in the place of an attribute stands its value, as in operands (XPath 2.0, 2.4.2)
  abbrev pub text_argument : List ItemValue → Result Text XCode
  text_argument items = optional_string (with_values around_argument items)
