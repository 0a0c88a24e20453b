-- What the functions reply that ask for no class: a sequence or a code.
use Rattle.std.specs.Prelude.{ℕ, pos, List, Option, Result}
use Rattle.pj_tree.specs.Tree.{Tree}
use Rattle.pj_tree.specs.declared.node.Node.{Node}
use Rattle.pj_tree.specs.declared.node.Place.{Place}
use Rattle.pj_xvalue.specs.declared.fault.XCode.{XCode}
use Rattle.pj_xvalue.specs.Arguments.{and_then, one, truth}
use Rattle.pj_xvalue.specs.Items.{ItemValue, String, Integer}
use Rattle.pj_findings.specs.Extents.{extent_of}
use Rattle.pj_node_functions.specs.Arguments.{one_node, text_argument}
use Rattle.pj_node_functions.specs.Files.{file_name}
use Rattle.pj_node_functions.specs.Kinds.{node_is}

-- `fileName()`: the last part of the path
abbrev pub file_reply : List ℕ → Result (List ItemValue) XCode
file_reply path = one (String (file_name path))

-- ---- the places of one node: those of its first and of its last character, as findings have them

abbrev pub number_of_node : (Node → ℕ) → List ItemValue → Result (List ItemValue) XCode
number_of_node number argument = and_then (one_node argument) (λ n. one (Integer (pos (number n))))

module _ (place_of : ℕ → Place) (tree : Tree) where
  -- `startLine(n)`
  abbrev pub start_line : List ItemValue → Result (List ItemValue) XCode
  start_line argument = number_of_node (λ n. (extent_of place_of tree n).begin.line) argument

  -- `startColumn(n)`
  abbrev pub start_column : List ItemValue → Result (List ItemValue) XCode
  start_column argument = number_of_node (λ n. (extent_of place_of tree n).begin.column) argument

  -- `endLine(n)`
  abbrev pub end_line : List ItemValue → Result (List ItemValue) XCode
  end_line argument = number_of_node (λ n. (extent_of place_of tree n).end.line) argument

  -- `endColumn(n)`
  abbrev pub end_column : List ItemValue → Result (List ItemValue) XCode
  end_column argument = number_of_node (λ n. (extent_of place_of tree n).end.column) argument

-- ----

-- `nodeIs(s)`: whether the context node is of the kind or the group of the name
abbrev pub kind_reply : (Node → List ℕ → Option ItemValue) → (Node → List (List ℕ)) → Tree → Option Node → List ItemValue → Result (List ItemValue) XCode
kind_reply attribute_of names_of tree at argument = and_then (text_argument attribute_of names_of argument) (λ text. truth (node_is tree at text))
