-- The declarations of a file.
use Rattle.std.specs.Prelude.{ℕ, zero, suc, ◌≡◌, ◌==◌, Bool, true, false, Option, None, Some, if◌then◌else◌, List, [], ◌∷◌, ◌++◌, length}
use Rattle.std.specs.Option.{option_map_or}
use Rattle.pj_tree.specs.Tree.{Tree, kind_of}
use Rattle.pj_tree.specs.declared.kind.Kind.{Kind}
use Rattle.pj_tree.specs.declared.kind.Kind.TheVariants as k
use Rattle.pj_tree.specs.declared.node.Node.{Node}
use Rattle.pj_symbols.specs.Kinds.{declares_class}
use Rattle.pj_symbols.specs.Names.{package_name}
use Rattle.pj_symbols.specs.Classes.{binary_name, class_around}
use Rattle.pj_symbols.specs.Variables.{variable_of}
use Rattle.pj_symbols.specs.declared.class.Class.{Class}
use Rattle.pj_symbols.specs.declared.variable.Variable.{Variable}

-- the class that a node declares, if it declares one
abbrev pub class_of : Tree → Node → Class
class_of t n = record { node = n; name = binary_name t n; owner = class_around t n }

abbrev pub class_at : Tree → Node → Option Class
class_at t n = if declares_class t n then Some (class_of t n) else None

-- the variable that a node names, if it is the name of one
abbrev pub is_variable_id : Kind → Bool
is_variable_id k.VariableId = true
is_variable_id other = false

abbrev pub names_variable : Tree → Node → Bool
names_variable t n = option_map_or is_variable_id (kind_of t n) false

abbrev pub variable_at : Tree → Node → Option Variable
variable_at t n = if names_variable t n then Some (variable_of t n) else None

-- ---- of the whole file

-- one, if it is there
abbrev pub one_class : Option Class → List Class
one_class None = []
one_class (Some class) = class ∷ []

abbrev pub one_variable : Option Variable → List Variable
one_variable None = []
one_variable (Some variable) = variable ∷ []

-- the classes that the nodes below a number declare, in the order of the nodes
abbrev pub classes_below : Tree → ℕ → List Class
classes_below t zero = []
classes_below t (suc n) = classes_below t n ++ one_class (class_at t (record { 0 = n }))

-- and the variables
abbrev pub variables_below : Tree → ℕ → List Variable
variables_below t zero = []
variables_below t (suc n) = variables_below t n ++ one_variable (variable_at t (record { 0 = n }))

-- the name of the package, each declared class and each variable
pub record FileSymbols : Type 0 where
  pub package_text : List ℕ
  pub classes : List Class
  pub variables : List Variable

abbrev pub symbols_of : Tree → FileSymbols
symbols_of t = record {
  package_text = package_name t;
  classes = classes_below t (length t.nodes);
  variables = variables_below t (length t.nodes);
}

-- ---- look-ups

-- the class of a list that a node declares: the first one of the node
abbrev pub class_in : List Class → Node → Option Class
class_in [] n = None
class_in (class ∷ classes) n = if class.node.0 == n.0 then Some class else class_in classes n

-- Of a node of the tree the class is found among those of the file, and no class of another node.
abbrev pub FindsClasses : Tree → List Class → Type 0
FindsClasses t classes = (n : Node) → class_in classes n ≡ class_at t n
