-- Types among the names of expressions (JLS 6.5.2, where a name alone cannot tell).
-- A primary expression may begin with names that stand one behind the other with dots between, n1 . n2 . .. nk: an access of the
-- variable n1, and of the field of each further name. It is read as a class, with its package, and what is in the class, where a
-- name begins with a capital letter: for the least i where ni does, n1 to ni are the name of the class. So that something follows
-- what is in the class, i is below k, or a call or a method reference follows nk. And no variable that is declared in the file is
-- named n1.
use Rattle.std.specs.Prelude.{ℕ, ◌-◌, ◌==◌, Bool, false, not, ◌&&◌, if◌then◌else◌, Option, Some, None, List, [], ◌∷◌, ◌++◌, nat_eq}
use Rattle.std.specs.List.{list_any}
use Rattle.std.specs.Cmp.Lexicographic.{pointwise}
use Rattle.pj_tree.specs.declared.kind.Kind.{Kind}
use Rattle.pj_tree.specs.declared.kind.Kind.TheVariants as k
use Rattle.pj_tree.specs.declared.node.Span.{Span}
use Rattle.pj_shape.specs.Kinds.{is_variable_access, is_field_access, is_variable_id, may_follow_type}
use Rattle.pj_shape.specs.Shaped.{Nodes, no_nodes, node, one_node}
use Rattle.pj_shape.specs.Words.{word_at, is_capital}

-- what is asked of the words of a file, each by the place of its token
pub record Words : Type 0 where
  -- it begins with `A` to `Z`
  pub capital : ℕ → Bool
  -- some variable that is declared in the file has this name
  pub declared : ℕ → Bool

-- ---- the names that a node is made of

-- one more name behind names, if there are any
abbrev pub one_more : ℕ → List ℕ → List ℕ
one_more j [] = []
one_more j (n ∷ before) = j ∷ n ∷ before

abbrev pub names_by : Kind → ℕ → List ℕ → List ℕ
names_by kind last before = if is_variable_access kind then last ∷ [] else if is_field_access kind then one_more last before else []

-- The places of the names n1 . n2 . .. ni that the first of the nodes is made of, the last name first, where it begins at the
-- place `start`. Any other node is made of none: so are parentheses around a name, which begin one place before it.
abbrev pub names : ℕ → Nodes → List ℕ
names start no_nodes = []
names start (node kind i j below after) = if i == start then names_by kind (j - 1) (names start below) else []

-- the last of the names is the first one that begins with a capital letter
abbrev pub is_class_name : (ℕ → Bool) → List ℕ → Bool
is_class_name capital [] = false
is_class_name capital (last ∷ before) = capital last && not (list_any capital before)

-- ---- the nodes with types

-- where a node begins, if it may stand over the name of a class
abbrev pub around_of : Kind → ℕ → Option ℕ
around_of kind i = if may_follow_type kind then Some i else None

-- whether the first of the nodes is the name of a class, where it stands first in a node that begins at such a place
abbrev pub is_class : Words → Option ℕ → Nodes → Bool
is_class w None ns = false
is_class w (Some start) ns = is_class_name w.capital (names start ns) && not (w.declared start)

-- one type expression with one class type
abbrev pub type_then : ℕ → ℕ → Nodes → Nodes
type_then i j after = node k.TypeExpression i j (one_node k.ClassType i j no_nodes) after

-- The nodes with types for the names of classes. The first argument but one is for the first of the nodes: where the node around
-- them begins, if they stand first in one that may stand over the name of a class.
abbrev pub typed : Words → Option ℕ → Nodes → Nodes
typed w around no_nodes = no_nodes
typed w around (node kind i j below after) =
    if is_class w around (node kind i j below no_nodes)
    then type_then i j (typed w None after)
    else node kind i j (typed w (around_of kind i) below) (typed w None after)

-- ---- the words of a file

-- the places of the names of variables that are declared among the nodes, each of which is the first word of a VariableId
abbrev pub variables : Nodes → List ℕ
variables no_nodes = []
variables (node kind i j below after) = (if is_variable_id kind then i ∷ [] else []) ++ (variables below ++ variables after)

abbrev pub is_declared : List ℕ → List Span → List ℕ → ℕ → Bool
is_declared text spans places i = list_any (λ v. pointwise nat_eq (word_at text spans v) (word_at text spans i)) places

abbrev pub words_of : List ℕ → List Span → Nodes → Words
words_of text spans ns = record { capital = is_capital text spans; declared = is_declared text spans (variables ns) }

-- the nodes of a file, with types among the names
abbrev pub with_types : List ℕ → List Span → Nodes → Nodes
with_types text spans ns = typed (words_of text spans ns) None ns
