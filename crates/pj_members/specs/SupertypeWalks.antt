-- The code's walk along the supertypes of a receiver: where it stands, and what a step gives.
use Rattle.std.specs.Prelude.{◌≡◌, List, [], ◌∷◌, map, reverse, Option, Some, None, MatchOption}
use Rattle.std.specs.FinSet as set
use Rattle.pj_names.specs.ClassName.{NameSet}
use Rattle.pj_names.specs.declared.ty.Types.{Types}
use Rattle.pj_names.specs.JavaType.{Arguments, java_types}
use Rattle.pj_names.specs.Asking.{unvisited}
use Rattle.pj_types.specs.Supertypes.{Listed, name_of}
use Rattle.pj_members.specs.declared.supertypes.Supertype.{Supertype}
use Rattle.pj_members.specs.declared.supertype_walk.SupertypeWalk.{SupertypeWalk}

-- a class with its type arguments
abbrev pub supertype_view : Supertype → Listed
supertype_view class = record { name = class.name; arguments = Some (java_types class.arguments) }

abbrev pub all_supertypes : List Supertype → List Listed
all_supertypes classes = map supertype_view classes

-- a class, where there is one
abbrev pub seen_supertype : Option Supertype → Option Listed
seen_supertype None = None
seen_supertype (Some class) = Some (supertype_view class)

-- type arguments, where there are some
abbrev pub seen_types : Option Types → Option Arguments
seen_types None = None
seen_types (Some arguments) = Some (java_types arguments)

-- Where a walk stands: the names that were visited, and the classes still to visit, the next one first.
abbrev pub Standing : Type 0
Standing = NameSet × List Listed

abbrev pub standing : SupertypeWalk → Standing
standing walk = (walk.visited, all_supertypes (reverse walk.to_visit.items))

-- of the classes to visit, those from the next one on that was not visited
abbrev pub left : NameSet → List Listed → List Listed
left visited to_visit = unvisited name_of (set.contains visited) to_visit

-- a step of a walk: a class more is visited, where one is left
abbrev pub Gives : Standing → Standing → Option Listed → Type 0
Gives old new next = MatchOption next (left old.0 old.1 ≡ []) (λ class. (left old.0 old.1 ≡ class ∷ new.1) × (new.0 ≡ set.insert old.0 class.name))
