-- Workers at a table, for private clauses.
use Rattle.std.specs.Prelude.{◌≡◌, ◌≢◌, ℕ, ◌+◌, ◌<◌, List, [], ◌∷◌, length, map, reverse, Result, Ok, Err, IfOk, OnOk}
use Rattle.std.specs.List.{AllByRecursion, AllZip}
use mathlib.Core.Option.{some}
use lib.ListN.{get_elem?}
use Rattle.pj_names.specs.declared.oracle.AskFault.{AskFault}
use Rattle.pj_names.specs.declared.oracle.AskFault.TheVariants.{Failed}
use Rattle.pj_names.specs.ClassName.{NameSet}
use Rattle.pj_names.specs.Told.{Worlds}
use Rattle.pj_seats.specs.declared.worker.Share.{Share}
use Rattle.pj_seats.specs.Working.{IsShare}
use Rattle.pj_table.specs.Names.{part_of}
use Rattle.pj_table.specs.Plays.{new_view, united}
use Rattle.pj_table.specs.Rule.{HasAll, Shows, claimed, marks, once_below}
use Rattle.pj_table.specs.Seats.{HasEnded, IsOf, IsSameSeat, files_of, view_of, world_of}
use Rattle.pj_table.specs.Worlds.{CountsFaults, World}
use Rattle.pj_table.specs.declared.part.Part.{Part}
use Rattle.pj_table.specs.declared.seat.TableSeat.{TableSeat}
use Rattle.pj_table.specs.declared.seat.TypeTable.{TypeTable}
use Rattle.pj_table.specs.declared.view.Entry.{Entry}
use Rattle.pj_table.specs.declared.view.View.{View}
use Rattle.pj_crew.specs.Placing.{AreOnceEach, ArePlaced, all_results}
use Rattle.pj_crew.specs.declared.worker.Worker.{Worker}

-- What a worker ended with, by its seat and the counts of its door before and after.
pub record HasWorkedAt {M : Type 0} (world : World) (comes : ℕ → Worlds → NameSet → M → Type 0) (old new faults since : ℕ) (before after : TableSeat) (end : Result (Share M) AskFault) : Type 0 where
  pub seat : IsSameSeat before after
  pub past : OnOk end (HasEnded after)
  pub share : IfOk end (λ share. IsShare world comes (view_of before) (view_of after) old new share.results.items)
  pub counts : CountsFaults faults since end

-- the opening seat, after so many more seats were split off
abbrev pub with_numbers_given : ℕ → View → View
with_numbers_given count view = record view { given = view.given + count }

-- Workers have seats of the table with the next numbers, one after the other.
abbrev pub AreSeatedFrom : {D M : Type 0} → TypeTable → View → ℕ → List (Worker D M) → Type 0
AreSeatedFrom table start k [] = Unit {0}
AreSeatedFrom table start k (w ∷ workers) = IsOf table w.station.seat × (view_of w.station.seat ≡ new_view (with_numbers_given k start)) × AreSeatedFrom table start (k + 1) workers

-- The workers have these doors, in the other order, and a new seat each.
pub record AreHired {D M : Type 0} (table : TypeTable) (start : View) (doors : List D) (workers : List (Worker D M)) : Type 0 where
  pub doors_are : doors ≡ reverse (map (λ (w : Worker D M). w.station.door) workers)
  pub seated : AreSeatedFrom table start 0 workers

-- Each worker can begin.
abbrev pub IsReady : {D M : Type 0} → TypeTable → (D → World) → ℕ → Worker D M → Type 0
IsReady table holds files w = IsOf table w.station.seat × (holds w.station.door ≡ world_of w.station.seat) × (files_of w.station.seat ≡ files)

-- A worker worked.
pub record HasWorked {D M : Type 0} (holds : D → World) (finds faults : D → ℕ) (comes : ℕ → Worlds → NameSet → M → Type 0) (before after : Worker D M) : Type 0 where
  pub same_folders : holds after.station.door ≡ holds before.station.door
  pub ended : HasWorkedAt (holds before.station.door) comes (finds before.station.door) (finds after.station.door) (faults before.station.door) (faults after.station.door) before.station.seat after.station.seat after.ended

-- All have seats of the table.
abbrev pub AreSeatedAt : {D M : Type 0} → TypeTable → List (Worker D M) → Type 0
AreSeatedAt {D} {M} table workers = AllByRecursion (λ (w : Worker D M). IsOf table w.station.seat) workers

abbrev pub doors_of : {D M : Type 0} → List (Worker D M) → List D
doors_of {D} {M} workers = map (λ (w : Worker D M). w.station.door) workers

abbrev pub ends_of : {D M : Type 0} → List (Worker D M) → List (Result (Share M) AskFault)
ends_of {D} {M} workers = map (λ (w : Worker D M). w.ended) workers

-- what a seat knows once those of workers were joined into it, one after the other
abbrev pub with_seats_of : {D M : Type 0} → List (Worker D M) → View → View
with_seats_of [] view = view
with_seats_of (w ∷ workers) view = with_seats_of workers (united view (view_of w.station.seat))

-- A worker did not end since its door failed.
abbrev pub HasNotFailed : {M : Type 0} → Result (Share M) AskFault → Type 0
HasNotFailed end = end ≢ Err Failed

-- Workers were hired for doors, and worked; the opening seat knows what theirs knew, and this is what they ended with.
pub record HaveWorked {D M : Type 0} (table : TypeTable) (start : View) (holds : D → World) (finds faults : D → ℕ) (comes : ℕ → Worlds → NameSet → M → Type 0) (before after : List D) (last : View) (ends : List (Result (Share M) AskFault)) : Type 0 where
  pub before_work : List (Worker D M)
  pub after_work : List (Worker D M)
  pub are_hired : AreHired table start before before_work
  pub each : AllZip (HasWorked holds finds faults comes) before_work after_work
  pub last_is : last ≡ with_seats_of (reverse after_work) (with_numbers_given (length before_work) start)
  pub after_is : after ≡ doors_of (reverse after_work)
  pub ends_are : ends ≡ ends_of (reverse after_work)

-- Where all ended with shares, the opening seat has all numbers, and, as far as each file was claimed once, each stands in the shares once.
abbrev pub AreJoined : {M : Type 0} → View → ℕ → List (Share M) → Type 0
AreJoined view files shares = HasAll view × ((0 < marks view → (x : ℕ) → claimed x view ≡ once_below x files) → AreOnceEach files (all_results shares))

-- Each part shows what the opening seat knows of it, and its names lie there.
abbrev pub AreShown : View → List Part → Type 0
AreShown view parts = (p : ℕ) → p < 64 → (x : Part) × (get_elem? parts p ≡ some x) × Shows view p x × ((k : ℕ) (e : Entry) → get_elem? x.entries.items k ≡ some e → part_of e.name ≡ p)

-- What came of all files, and the parts of the table at its end, where all ended with shares.
pub record ArePut {M : Type 0} (view : View) (files : ℕ) (ends : List (Result (Share M) AskFault)) (made : List M) (parts : List Part) : Type 0 where
  pub shares : List (Share M)
  pub all_ok : map (λ (s : Share M). Ok s) shares ≡ ends
  pub once : AreOnceEach files (all_results shares)
  pub placed : ArePlaced files (all_results shares) made
  pub many : length parts ≡ 64
  pub shown : AreShown view parts
