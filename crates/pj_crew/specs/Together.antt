-- What several workers come to.
use Rattle.std.specs.Prelude.{◌≡◌, ℕ, ◌+◌, ◌<◌, ◌==◌, ◌⊎◌, List, [], ◌∷◌, None, filter, length, map, slice_index_or}
use Rattle.std.specs.List.{AllByRecursion, Contains, flat_map}
use mathlib.Core.Option.{some}
use lib.ListN.{get_elem?}
use Rattle.pj_names.specs.ClassName.{Name, NameSet}
use Rattle.pj_names.specs.Told.{Worlds}
use Rattle.pj_seats.specs.Looks.{AreLooksOf, CountsFinds}
use Rattle.pj_seats.specs.Working.{IsMadeOf}
use Rattle.pj_table.specs.Book.{IsSound, IsTold, Stands, looks_of}
use Rattle.pj_table.specs.Names.{part_of}
use Rattle.pj_table.specs.Rule.{once_below, times}
use Rattle.pj_table.specs.Worlds.{World}
use Rattle.pj_table.specs.declared.part.Part.{Part}
use Rattle.pj_table.specs.declared.view.Asked.{Asked}
use Rattle.pj_table.specs.declared.view.Entry.{Entry}

-- A name stands among the entries of its part.
abbrev pub IsFilled : List Part → Name → Type 0
IsFilled parts name = (x : Part) × (k : ℕ) × (get_elem? parts (part_of name) ≡ some x) × Stands x.entries.items k name

-- A part of that number has a legal history with the world's answers alone, and each name lies in its part.
pub record IsRightPart (world : World) (p : ℕ) (x : Part) : Type 0 where
  pub good : IsSound world x.entries.items x.looks.items
  pub placed : (k : ℕ) (e : Entry) → get_elem? x.entries.items k ≡ some e → part_of e.name ≡ p

-- There are 64 parts, and all of them are right.
pub record AreRightParts (world : World) (parts : List Part) : Type 0 where
  pub many : length parts ≡ 64
  pub each : (p : ℕ) (x : Part) → get_elem? parts p ≡ some x → IsRightPart world p x

-- What the worker at one seat did: the number of the seat; the files that it claimed, in its order, each with the names that were
-- asked for it; and its looks at the table.
pub record SeatWork : Type 0 where
  pub number : ℕ
  pub files : List (ℕ × List Name)
  pub looks : List Asked

-- the names that were asked for a seat's files
abbrev pub names_of : SeatWork → List Name
names_of seat = flat_map (λ (file : ℕ × List Name). file.1) seat.files

-- the files that seats claimed, each with the names that were asked for it
abbrev pub claimed_by : List SeatWork → List (ℕ × List Name)
claimed_by seats = flat_map (λ (seat : SeatWork). seat.files) seats

-- The last seat has the number 1, and each before it the next number.
abbrev pub AreNumbered : List SeatWork → Type 0
AreNumbered [] = Unit {0}
AreNumbered (seat ∷ seats) = (seat.number ≡ 1 + length seats) × AreNumbered seats

-- The history of a part has just these looks of the seat, each at the place where its name stands among the entries of the part.
abbrev pub HasLooks : ℕ → Part → SeatWork → Type 0
HasLooks p part seat = IsTold part.entries.items part.looks.items seat.number (filter (λ (look : Asked). look.part == p) seat.looks)

-- What was done at the table: each file below the number of files was claimed once, at one seat, and no other; each seat looked just
-- for the names that were asked for its files, in their order; the history of each part has just these looks, and none of another seat.
pub record IsWorkOf (files : ℕ) (parts : List Part) (seats : List SeatWork) : Type 0 where
  pub numbered : AreNumbered seats
  pub once : (n : ℕ) → times n (map (λ (file : ℕ × List Name). file.0) (claimed_by seats)) ≡ once_below n files
  pub looks : AllByRecursion (λ (seat : SeatWork). AreLooksOf (names_of seat) seat.looks) seats
  pub told : (p : ℕ) (x : Part) → get_elem? parts p ≡ some x → AllByRecursion (HasLooks p x) seats
  pub others : (p n : ℕ) (x : Part) → get_elem? parts p ≡ some x → (n ≡ 0) ⊎ (length seats < n) → looks_of n x.looks.items ≡ []

-- There is a seat for each door, and the count of the door's finds rose by the number of fills among the looks of its seat.
abbrev pub HaveFound : {D : Type 0} → (D → ℕ) → List D → List D → List SeatWork → Type 0
HaveFound finds [] [] [] = Unit {0}
HaveFound finds [] [] (seat ∷ seats) = ⊥
HaveFound finds [] (after ∷ afters) seats = ⊥
HaveFound finds (before ∷ befores) [] seats = ⊥
HaveFound finds (before ∷ befores) (after ∷ afters) [] = ⊥
HaveFound finds (before ∷ befores) (after ∷ afters) (seat ∷ seats) = CountsFinds (finds before) (finds after) seat.looks × HaveFound finds befores afters seats

-- What came of a file came so in the world, with the names that were asked for it at the seat that claimed it, and each of these is filled.
pub record IsMadeOver {M : Type 0} (world : World) (comes : Worlds → NameSet → M → Type 0) (parts : List Part) (seats : List SeatWork) (file : ℕ) (made : M) : Type 0 where
  pub names : List Name
  pub claimed : Contains (claimed_by seats) (file, names)
  pub made_so : IsMadeOf world comes made names
  pub filled : AllByRecursion (IsFilled parts) names

-- What came of each file, by its number; the parts of the table; and what was done at each seat, that of the first door first.
pub record IsMadeByAll {D M : Type 0} (world : World) (comes : ℕ → Worlds → NameSet → M → Type 0) (finds : D → ℕ) (files : ℕ) (before after : List D) (made : List M) (parts : List Part) : Type 0 where
  pub seats : List SeatWork
  pub many : length made ≡ files
  pub each : (n : ℕ) (d : M) → n < files → IsMadeOver world (comes n) parts seats n (slice_index_or made n d)
  pub right : AreRightParts world parts
  pub work : IsWorkOf files parts seats
  pub found : HaveFound finds before after seats

-- All doors have this world.
abbrev pub AreOfWorld : {D : Type 0} → (D → World) → World → List D → Type 0
AreOfWorld holds world doors = AllByRecursion (λ door. holds door ≡ world) doors

-- the world of the first door
abbrev pub first_world : {D : Type 0} → (D → World) → List D → World
first_world holds [] = None
first_world holds (door ∷ doors) = holds door

-- All doors have the world of the first one.
abbrev pub AreOfOneWorld : {D : Type 0} → (D → World) → List D → Type 0
AreOfOneWorld holds doors = AreOfWorld holds (first_world holds doors) doors
