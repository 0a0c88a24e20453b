-- What is known once workers were hired for doors, and worked, and the doors are back.
use Rattle.std.proofs.Common.{◌≡◌, ◌∙◌, ℕ, ◌<◌, List, [], ◌∷◌, reverse, length, refl, sym, ap, subst, arith, get_or}
use Rattle.std.specs.Prelude.{Result, Err}
use Rattle.std.specs.List.{All, AllZip, Contains}
use Rattle.pj_names.specs.declared.oracle.AskFault.{AskFault}
use Rattle.pj_names.specs.declared.oracle.AskFault.TheVariants.{Failed}
use Rattle.pj_names.specs.ClassName.{NameSet}
use Rattle.pj_names.specs.Told.{UnlessFailed, Worlds}
use Rattle.pj_seats.specs.declared.worker.Share.{Share}
use Rattle.pj_table.specs.Plays.{united}
use Rattle.pj_table.specs.Rule.{total}
use Rattle.pj_table.specs.Seats.{view_of}
use Rattle.pj_table.specs.Worlds.{CountsFaults, World}
use Rattle.pj_table.specs.declared.seat.TypeTable.{TypeTable}
use Rattle.pj_table.specs.declared.view.View.{View}
use Rattle.pj_crew.proofs.Faults.{counts_all, same_worlds}
use Rattle.pj_crew.proofs.Reversed.{map_reverse, zip_reverse}
use Rattle.pj_crew.specs.Crew.{HasNotFailed, HasWorked, HaveWorked, doors_of, with_numbers_given, with_seats_of}
use Rattle.pj_crew.specs.Together.{first_world}
use Rattle.pj_crew.specs.declared.worker.Worker.{Worker}

-- what a join leaves of the opening seat

own_stays : {D M : Type 0} (workers : List (Worker D M)) (v : View) → (with_seats_of workers v).own ≡ v.own
own_stays [] v = refl
own_stays (w ∷ workers) v = own_stays workers (united v (view_of w.station.seat))

files_stay : {D M : Type 0} (workers : List (Worker D M)) (v : View) → (with_seats_of workers v).files ≡ v.files
files_stay [] v = refl
files_stay (w ∷ workers) v = files_stay workers (united v (view_of w.station.seat))

-- doors that stay as they are
pub unchanged : {D : Type 0} (holds : D → World) (doors : List D) → AllZip (λ after before. holds after ≡ holds before) doors doors
unchanged holds [] = tt
unchanged holds (door ∷ doors) = (refl, unchanged holds doors)

-- the world of the first door
pub of_first : {D : Type 0} (holds : D → World) (doors : List D) (first : D) → 0 < length doors → first ≡ get_or doors 0 first → first_world holds doors ≡ holds first
of_first holds [] first any is = absurd (omega (arith, any))
of_first holds (door ∷ doors) first any is = ap holds (sym is)

module _ {D M : Type 0} (table : TypeTable) (start : View) (holds : D → World) (finds faults : D → ℕ) (comes : ℕ → Worlds → NameSet → M → Type 0) (before after : List D) (last : View) (ends : List (Result (Share M) AskFault)) (work : HaveWorked table start holds finds faults comes before after last ends) where
  abbrev hired : List (Worker D M)
  hired = reverse work.before_work

  abbrev worked : List (Worker D M)
  worked = reverse work.after_work

  each : AllZip (HasWorked holds finds faults comes) hired worked
  each = zip_reverse (HasWorked holds finds faults comes) work.before_work work.after_work work.each

  before_is : before ≡ doors_of hired
  before_is = work.are_hired.doors_are ∙ sym (map_reverse (λ (w : Worker D M). w.station.door) work.before_work)

  -- the doors are those that they were
  pub doors_stay : AllZip (λ after before. holds after ≡ holds before) after before
  doors_stay =
      subst (λ (l : List D). AllZip (λ after before. holds after ≡ holds before) after l) (sym before_is)
      (subst (λ (l : List D). AllZip (λ after before. holds after ≡ holds before) l (doors_of hired)) (sym work.after_is) (same_worlds holds finds faults comes hired worked each))

  -- how their counts of faults went
  pub counts : {B : Type 0} (result : Result B AskFault) → (result ≡ Err Failed → Contains ends (Err Failed)) → UnlessFailed result (All HasNotFailed ends) → CountsFaults (total faults before) (total faults after) result
  counts result failed not =
      let all = counts_all holds finds faults comes hired worked result each
      (λ is. subst (λ (l : List (Result (Share M) AskFault)). Contains l (Err Failed)) work.ends_are (failed is))
      (subst (λ (l : List (Result (Share M) AskFault)). UnlessFailed result (All HasNotFailed l)) work.ends_are not) in
      subst (λ (l : List D). CountsFaults (total faults l) (total faults after) result) (sym before_is)
      (subst (λ (l : List D). CountsFaults (total faults (doors_of hired)) (total faults l) result) (sym work.after_is) all)

  -- the opening seat is the one that it was
  pub own_is : last.own ≡ start.own
  own_is = ap (λ (v : View). v.own) work.last_is ∙ own_stays worked (with_numbers_given (length work.before_work) start)

  pub files_are : last.files ≡ start.files
  files_are = ap (λ (v : View). v.files) work.last_is ∙ files_stay worked (with_numbers_given (length work.before_work) start)
