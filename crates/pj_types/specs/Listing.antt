-- The list of supertypes as the plain recursion, without any number: a law says that it is what is meant.
use Rattle.std.specs.Prelude.{◌≡◌, true, false, if◌then◌else◌, List, [], ◌∷◌, ◌++◌, map, Option, Some, None}
use Rattle.pj_names.specs.declared.answer.Answer.{Answer}
use Rattle.pj_names.specs.ClassName.{Name, is_object}
use Rattle.pj_names.specs.JavaType.{JavaType}
use Rattle.pj_names.specs.Asking.{has_name}
use Rattle.pj_types.specs.Supertypes.{Listed, first_listed, given_type, name_of, of_known}

-- what is known of a class in a world: of `java.lang.Object` nothing is looked for
abbrev pub known_in : (Name → Answer) → Name → Option Answer
known_in world name = if is_object name then None else Some (world name)

-- the direct supertypes of a class in a world
abbrev pub direct_in : (Name → Answer) → Listed → List Listed
direct_in world class = of_known class.arguments (known_in world class.name)

-- Where some classes were visited, some others, in turn, lead to a list: a class of a visited name is skipped; any other one
-- is put at the end, then what its direct supertypes lead to, and then what the rest leads to.
pub data LeadTo (world : Name → Answer) : List Listed → List Listed → List Listed → Type 0 where
  none : {visited : List Listed} → LeadTo world visited [] visited
  skipped : {visited rest list : List Listed} {class : Listed} → has_name (map name_of visited) class.name ≡ true → LeadTo world visited rest list →
      LeadTo world visited (class ∷ rest) list
  visited_now : {visited below rest list : List Listed} {class : Listed} → has_name (map name_of visited) class.name ≡ false →
      LeadTo world (visited ++ class ∷ []) (direct_in world class) below → LeadTo world below rest list → LeadTo world visited (class ∷ rest) list

-- The types are the list of supertypes of a class.
abbrev pub AreSupertypes : (Name → Answer) → Name → List JavaType → Type 0
AreSupertypes world name types = (list : List Listed) × LeadTo world [] (first_listed name ∷ []) list × (map given_type list ≡ types)

-- of the names of a list, in their order, those that are asked: all but `java.lang.Object`
abbrev pub asked_names : List Name → List Name
asked_names [] = []
asked_names (name ∷ names) = if is_object name then asked_names names else name ∷ asked_names names
