-- The code's walk along supertypes by their names: where it stands, and what a step gives.
use Rattle.std.specs.Prelude.{◌≡◌, List, [], ◌∷◌, Option, MatchOption}
use Rattle.std.specs.FinSet as set
use Rattle.pj_names.specs.ClassName.{Name, NameSet}
use Rattle.pj_names.specs.Asking.{unvisited}
use Rattle.pj_types.specs.NameSearch.{itself}

-- Where a walk by names stands: the names that were visited, and those still to visit, the next one first.
abbrev pub NameStanding : Type 0
NameStanding = NameSet × List Name

-- of the names to visit, those from the next one on that was not visited
abbrev pub left : NameSet → List Name → List Name
left visited to_visit = unvisited itself (set.contains visited) to_visit

-- a step of a walk: a name more is visited, where one is left
abbrev pub Gives : NameStanding → NameStanding → Option Name → Type 0
Gives old new next = MatchOption next (left old.0 old.1 ≡ []) (λ class. (left old.0 old.1 ≡ class ∷ new.1) × (new.0 ≡ set.insert old.0 class))
