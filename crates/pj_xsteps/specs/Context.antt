-- What an expression is evaluated in.
use Rattle.std.specs.Prelude.{ℕ, ℤ, pos, map, List, [], ◌∷◌, Option, nat_eq, if◌then◌else◌}
use Rattle.std.specs.Cmp.Lexicographic.{pointwise}
use Rattle.pj_tree.specs.declared.node.Node.{Node}
use Rattle.pj_tree.specs.Tree.{Tree}
use Rattle.pj_xvalue.specs.declared.item.Item.{Item}
use Rattle.pj_xvalue.specs.Items.{ItemValue, values_of}
use Rattle.pj_xpatterns.specs.Meaning.{Pattern}
use Rattle.pj_xsteps.specs.Means.{Means}

-- the context item with its position, counted from 1, and the number of items among which it stands (XPath 2.0, 2.1.2)
pub record Context : Type 0 where
  pub item : ItemValue
  pub position : ℤ
  pub size : ℤ

abbrev pub at : ItemValue → ℕ → ℕ → Context
at item position size = record { item = item; position = pos position; size = pos size }

-- the variables with their values: of two of one name the first counts
abbrev pub Variables : Type 0
Variables = List (List ℕ × List ItemValue)

-- the value of a variable, and nothing where it is not there
abbrev pub value_of_variable : List ℕ → Variables → List ItemValue
value_of_variable name [] = []
value_of_variable name (variable ∷ rest) = if pointwise nat_eq variable.0 name then variable.1 else value_of_variable name rest

-- the variables that are given to an evaluation, as values
abbrev pub given_of : List (List ℕ × List Item) → Variables
given_of variables = map (λ variable. (variable.0, values_of variable.1)) variables

-- What is around all expressions: the tree, the attributes of its nodes, and the patterns that the functions know.
pub record Around : Type 0 where
  pub tree : Tree
  -- the value of a node's attribute of a name, if it has one
  pub attribute_of : Node → List ℕ → Option ItemValue
  -- the names of a node's attributes
  pub names_of : Node → List (List ℕ)
  pub patterns : List Pattern

abbrev pub around : Tree → (Node → List ℕ → Option ItemValue) → (Node → List (List ℕ)) → List Pattern → Around
around tree attribute_of names_of patterns = record { tree = tree; attribute_of = attribute_of; names_of = names_of; patterns = patterns }

-- what an expression denotes: by its context and the variables a sequence or a code, with the classes that it asks for
abbrev pub Denotation : Type 0
Denotation = Context → Variables → Means (List ItemValue)
