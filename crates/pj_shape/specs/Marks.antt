-- Names of classes, and of variables, among nodes in preorder. It serves clauses inside the crate alone.
use Rattle.std.specs.Prelude.{ℕ, ◌-◌, ◌==◌, nat_lt, Bool, true, false, not, ◌&&◌, if◌then◌else◌, List, [], ◌∷◌, ◌++◌}
use Rattle.pj_tree.specs.declared.kind.Kind.{Kind}
use Rattle.pj_shape.specs.declared.made.Made.{Made}
use Rattle.pj_shape.specs.declared.marks.Name.{Name}
use Rattle.pj_shape.specs.declared.marks.Name.TheVariants.{Other, Plain, Class}
use Rattle.pj_shape.specs.Kinds.{is_variable_access, is_field_access, is_variable_id}
use Rattle.pj_shape.specs.Shaped.{Nodes, no_nodes, node}
use Rattle.pj_shape.specs.Typed.{Words, names, is_class_name}

-- for each node in preorder, whether it is made of names of which the last is the first one to begin with a capital letter, and no variable has the name of the first
abbrev pub marks : Words → Nodes → List Bool
marks w no_nodes = []
marks w (node k i j below after) = (is_class_name w.capital (names i (node k i j below no_nodes)) && not (w.declared i)) ∷ marks w below ++ marks w after

-- ---- the same of a list of nodes

-- what one more name makes of the names before it, by whether it begins with a capital letter
abbrev pub name_after : Bool → Name → Name
name_after capital Other = Other
name_after true Plain = Class
name_after false Plain = Plain
name_after capital Class = Other

-- what a node of the kind is, by whether its last word begins with a capital letter, and by what its first child is
abbrev pub name_by : Kind → Bool → Name → Name
name_by kind capital below = if is_variable_access kind then name_after capital Plain else if is_field_access kind then name_after capital below else Other

-- where the first of the nodes begins
abbrev pub first_from : List Made → ℕ
first_from [] = 0
first_from (m ∷ ms) = m.from

-- what the first of the nodes is
abbrev pub first_name : Words → List Made → Name
first_name w [] = Other
first_name w (m ∷ ms) = name_by m.kind (w.capital (m.to - 1)) (if nat_lt 1 m.size && first_from ms == m.from then first_name w ms else Other)

abbrev pub is_class_of : Name → Bool
is_class_of Other = false
is_class_of Plain = false
is_class_of Class = true

abbrev pub marks_in : Words → List Made → List Bool
marks_in w [] = []
marks_in w (m ∷ ms) = (is_class_of (first_name w (m ∷ ms)) && not (w.declared m.from)) ∷ marks_in w ms

-- the places of the names of variables that are declared among the nodes
abbrev pub variables_in : List Made → List ℕ
variables_in [] = []
variables_in (m ∷ ms) = if is_variable_id m.kind then m.from ∷ variables_in ms else variables_in ms
