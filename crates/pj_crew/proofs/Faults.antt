-- Counts of doors' faults, together.
use Rattle.std.proofs.Common.{◌≡◌, ◌≢◌, ℕ, zero, suc, ◌+◌, ◌<◌, ◌≤◌, List, [], ◌∷◌, length, refl, subst, arith, get_or}
use Rattle.std.specs.Prelude.{Result, Ok, Err}
use Rattle.std.specs.List.{All, AllByRecursion, AllZip, Contains}
use Rattle.pj_names.specs.declared.oracle.AskFault.{AskFault}
use Rattle.pj_names.specs.declared.oracle.AskFault.TheVariants.{Failed, Memory}
use Rattle.pj_names.specs.ClassName.{NameSet}
use Rattle.pj_names.specs.Told.{Worlds, UnlessFailed}
use Rattle.pj_outside.specs.Faults.{Rises}
use Rattle.pj_seats.specs.declared.worker.Share.{Share}
use Rattle.pj_table.specs.Rule.{total}
use Rattle.pj_table.specs.Worlds.{CountsFaults, World}
use Rattle.pj_crew.specs.Crew.{HasNotFailed, HasWorked, doors_of, ends_of}
use Rattle.pj_crew.specs.declared.worker.Worker.{Worker}

pub all_by : {A : Type 0} (P : A → Type 0) (xs : List A) → All P xs → AllByRecursion P xs
all_by P [] all = tt
all_by P (x ∷ xs) all = (all 0 x (omega arith), all_by P xs (λ k d below. all (suc k) d (omega (arith, below))))

one_stays : {M : Type 0} (old new : ℕ) (end : Result (Share M) AskFault) → end ≢ Err Failed → CountsFaults old new end → new ≡ old
one_stays old new (Ok s) not counts = counts
one_stays old new (Err Memory) not counts = counts
one_stays old new (Err Failed) not counts = absurd (not refl)

one_grows : {M : Type 0} (old new : ℕ) (end : Result (Share M) AskFault) → CountsFaults old new end → old ≤ new
one_grows old new (Ok s) counts = omega (arith, counts)
one_grows old new (Err Memory) counts = omega (arith, counts)
one_grows old new (Err Failed) counts = counts.never_falls

module _ {D M : Type 0} (holds : D → World) (finds faults : D → ℕ) (comes : ℕ → Worlds → NameSet → M → Type 0) where
  abbrev Worked : List (Worker D M) → List (Worker D M) → Type 0
  Worked ws vs = AllZip (HasWorked holds finds faults comes) ws vs

  pub all_stay : (ws vs : List (Worker D M)) → Worked ws vs → AllByRecursion HasNotFailed (ends_of vs) → total faults (doors_of vs) ≡ total faults (doors_of ws)
  all_stay [] [] worked none = refl
  all_stay [] (v ∷ vs) worked none = absurd worked
  all_stay (w ∷ ws) [] worked none = absurd worked
  all_stay (w ∷ ws) (v ∷ vs) worked none =
      let one = one_stays (faults w.station.door) (faults v.station.door) v.ended none.0 worked.0.ended.counts in let rest = all_stay ws vs worked.1 none.1 in λ i. one i + rest i

  all_grow : (ws vs : List (Worker D M)) → Worked ws vs → total faults (doors_of ws) ≤ total faults (doors_of vs)
  all_grow [] [] worked = omega arith
  all_grow [] (v ∷ vs) worked = absurd worked
  all_grow (w ∷ ws) [] worked = absurd worked
  all_grow (w ∷ ws) (v ∷ vs) worked =
      let one = one_grows (faults w.station.door) (faults v.station.door) v.ended worked.0.ended.counts in let rest = all_grow ws vs worked.1 in omega (arith, one, rest)

  some_rises : (ws vs : List (Worker D M)) (k : ℕ) → Worked ws vs → k < length (ends_of vs) → get_or (ends_of vs) k (Err Failed) ≡ Err Failed → Rises (total faults (doors_of ws)) (total faults (doors_of vs))
  some_rises [] [] k worked below is = absurd (omega (arith, below))
  some_rises [] (v ∷ vs) k worked below is = absurd worked
  some_rises (w ∷ ws) [] k worked below is = absurd worked
  some_rises (w ∷ ws) (v ∷ vs) zero worked below is =
      let rose : Rises (faults w.station.door) (faults v.station.door) = subst (λ (e : Result (Share M) AskFault). CountsFaults (faults w.station.door) (faults v.station.door) e) is worked.0.ended.counts in
      let rest = all_grow ws vs worked.1 in let a = rose.never_falls in let b = rose.rose in record { never_falls = omega (arith, a, rest); rose = omega (arith, a, b, rest) }
  some_rises (w ∷ ws) (v ∷ vs) (suc k) worked below is =
      let rose = some_rises ws vs k worked.1 (omega (arith, below)) is in let one = one_grows (faults w.station.door) (faults v.station.door) v.ended worked.0.ended.counts in
      let a = rose.never_falls in let b = rose.rose in record { never_falls = omega (arith, a, one); rose = omega (arith, a, b, one) }

  pub failed_rises : (ws vs : List (Worker D M)) → Worked ws vs → Contains (ends_of vs) (Err Failed) → Rises (total faults (doors_of ws)) (total faults (doors_of vs))
  failed_rises ws vs worked at = some_rises ws vs at.0 worked at.1 at.2

  pub same_worlds : (ws vs : List (Worker D M)) → Worked ws vs → AllZip (λ after before. holds after ≡ holds before) (doors_of vs) (doors_of ws)
  same_worlds [] [] worked = tt
  same_worlds [] (v ∷ vs) worked = absurd worked
  same_worlds (w ∷ ws) [] worked = absurd worked
  same_worlds (w ∷ ws) (v ∷ vs) worked = (worked.0.same_folders, same_worlds ws vs worked.1)

  -- how the counts went, by what all ended with
  pub counts_all : {B : Type 0} (ws vs : List (Worker D M)) (result : Result B AskFault) → Worked ws vs → (result ≡ Err Failed → Contains (ends_of vs) (Err Failed)) → UnlessFailed result (All HasNotFailed (ends_of vs))
      → CountsFaults (total faults (doors_of ws)) (total faults (doors_of vs)) result
  counts_all ws vs (Ok b) worked failed not = all_stay ws vs worked (all_by HasNotFailed (ends_of vs) not)
  counts_all ws vs (Err Memory) worked failed not = all_stay ws vs worked (all_by HasNotFailed (ends_of vs) not)
  counts_all ws vs (Err Failed) worked failed not = failed_rises ws vs worked (failed refl)
