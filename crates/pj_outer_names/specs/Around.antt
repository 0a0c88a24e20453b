-- The classes around a place, whose members are in scope there (JLS 6.3).
use Rattle.std.specs.Prelude.{Bool, false, Option, if◌then◌else◌, List, [], ◌∷◌, ◌++◌, map, nat_le}
use Rattle.std.specs.Option.{option_map_or}
use Rattle.pj_tree.specs.Tree.{Tree, kind_of, parent_of, ancestors_of}
use Rattle.pj_tree.specs.declared.node.Node.{Node}
use Rattle.pj_declared.specs.declared.nearest.Declared.{Declared}
use Rattle.pj_declared.specs.Bodies.{shows_members}
use Rattle.pj_written.specs.Words.{one_or_none}

-- of a node with those above it: the bodies and record headers, in which the members of a class are in scope
abbrev pub showing : Tree → List Node → List Node
showing t [] = []
showing t (n ∷ above) = if option_map_or shows_members (kind_of t n) false then n ∷ showing t above else showing t above

abbrev pub owners : List (Option Node) → List Node
owners [] = []
owners (owner ∷ ns) = one_or_none owner ++ owners ns

-- the classes in whose bodies or record headers a place is, from the inside out
abbrev pub classes_around : Tree → Node → List Node
classes_around t place = owners (map (parent_of t) (showing t (place ∷ ancestors_of t place)))

-- whether a declaration stands in a class, or is one of its members
abbrev pub is_within : Declared → Node → Bool
is_within declared class = nat_le class.0 declared.opened

abbrev pub is_found_within : Option Declared → Node → Bool
is_found_within found class = option_map_or (λ declared. is_within declared class) found false

-- of the classes around, those that stand further in than what was found
abbrev pub further_in : Option Declared → List Node → List Node
further_in found [] = []
further_in found (class ∷ further) = if is_found_within found class then [] else class ∷ further_in found further

-- the classes whose inherited members go before what the file declares
abbrev pub searched : Tree → Node → Option Declared → List Node
searched t place found = further_in found (classes_around t place)
