-- What is known of workers that worked, by the opening seat that has theirs.
use Rattle.std.proofs.Common.{◌≡◌, ◌∙◌, ℕ, zero, suc, ◌+◌, ◌<◌, ◌==◌, List, [], ◌∷◌, ◌++◌, map, length, drop, filter, Bool, true, false, cond, refl, sym, ap, subst, arith, get_or}
use Rattle.std.specs.Prelude.{Result, Ok, Err, IfOk, OnOk}
use Rattle.std.specs.List.{AllByRecursion, AllZip, flat_map}
use Rattle.std.proofs.lemmas.List.{map-append}
use mathlib.Core.Option.{some, some-injective}
use lib.ListN.{get_elem?}
use Rattle.pj_names.specs.declared.oracle.AskFault.{AskFault}
use Rattle.pj_names.specs.declared.oracle.AskFault.TheVariants.{Memory}
use Rattle.pj_names.specs.ClassName.{Name, NameSet}
use Rattle.pj_names.specs.Told.{Worlds}
use Rattle.pj_seats.specs.declared.worker.Share.{Share}
use Rattle.pj_seats.specs.Looks.{AreLooksOf, lies_at, made_at}
use Rattle.pj_seats.specs.Working.{IsMadeOf, IsShare}
use Rattle.pj_table.proofs.Claims.{total_append}
use Rattle.pj_table.specs.Names.{part_of}
use Rattle.pj_table.specs.Plays.{new_view}
use Rattle.pj_table.specs.Rule.{line_claims, mark, times, total}
use Rattle.pj_table.specs.Seats.{HasEnded, view_of}
use Rattle.pj_table.specs.Worlds.{World}
use Rattle.pj_table.specs.declared.seat.TypeTable.{TypeTable}
use Rattle.pj_table.specs.declared.part.Part.{Part}
use Rattle.pj_table.specs.declared.view.Asked.{Asked}
use Rattle.pj_table.specs.declared.view.Line.{Line}
use Rattle.pj_table.specs.declared.view.View.{View}
use Rattle.pj_crew.proofs.Lists.{same_number}
use Rattle.pj_crew.proofs.Reversed.{IsIn}
use Rattle.pj_crew.proofs.Seated.{AreSingle, lines_of}
use Rattle.pj_crew.specs.Crew.{AreSeatedFrom, AreShown, HasWorked, ends_of, with_numbers_given}
use Rattle.pj_crew.specs.Placing.{all_results}
use Rattle.pj_crew.specs.Together.{IsFilled}
use Rattle.pj_crew.specs.declared.worker.Worker.{Worker}

-- A worker worked to its end, with this share.
pub record IsDone {D M : Type 0} (world : World) (comes : ℕ → Worlds → NameSet → M → Type 0) (w : Worker D M) (share : Share M) : Type 0 where
  pub past : (view_of w.station.seat).own.past ≡ true
  pub single : (view_of w.station.seat).joined ≡ []
  pub claims : (view_of w.station.seat).own.claims ≡ map (λ (r : ℕ × M). r.0) share.results.items
  pub asked : List (List Name)
  pub made : AllZip (λ (r : ℕ × M) names. IsMadeOf world (comes r.0) r.1 names) share.results.items asked
  pub looks : AreLooksOf (flat_map (λ (names : List Name). names) asked) (view_of w.station.seat).own.asked

-- A worker has a new seat.
abbrev pub IsNew : {D M : Type 0} → View → (D → World) → World → Worker D M → Type 0
IsNew start holds world w = (n : ℕ) × (view_of w.station.seat ≡ new_view (with_numbers_given n start)) × (holds w.station.door ≡ world)

module _ {D M : Type 0} (start : View) (holds : D → World) (finds faults : D → ℕ) (world : World) (comes : ℕ → Worlds → NameSet → M → Type 0) where
  done_one : (w v : Worker D M) (share : Share M) → IsNew start holds world w → HasWorked holds finds faults comes w v → v.ended ≡ Ok share → IsDone world comes v share
  done_one w v share new worked is =
      let s : IsShare world comes (view_of w.station.seat) (view_of v.station.seat) (finds w.station.door) (finds v.station.door) share.results.items =
      subst (λ (u : World). IsShare u comes (view_of w.station.seat) (view_of v.station.seat) (finds w.station.door) (finds v.station.door) share.results.items) new.2
      (subst (λ (e : Result (Share M) AskFault). IfOk e (λ (t : Share M). IsShare (holds w.station.door) comes (view_of w.station.seat) (view_of v.station.seat) (finds w.station.door) (finds v.station.door) t.results.items)) is worked.ended.share) in
      let before : (view_of w.station.seat).own.asked ≡ [] = ap (λ (u : View). u.own.asked) new.1 in
      record {
        past = subst (λ (e : Result (Share M) AskFault). OnOk e (HasEnded v.station.seat)) is worked.ended.past;
        single = s.works.rests.4 ∙ ap (λ (u : View). u.joined) new.1;
        claims = ap (λ (l : Line). l.claims) s.works.own ∙ ap (λ (u : View). u.own.claims ++ map (λ (r : ℕ × M). r.0) share.results.items) new.1;
        asked = s.asked;
        made = s.made;
        looks = ap (λ (l : List Asked). map made_at (drop (length l) (view_of v.station.seat).own.asked)) (sym before) ∙ s.works.looks;
      }

  pub done_all : (ws vs : List (Worker D M)) (shares : List (Share M)) → AllByRecursion (IsNew start holds world) ws → AllZip (HasWorked holds finds faults comes) ws vs → map (λ (s : Share M). Ok s) shares ≡ ends_of vs → AllZip (IsDone world comes) vs shares
  done_all [] [] [] new worked is = tt
  done_all [] [] (s ∷ shares) new worked is = absurd (let long = ap length is in omega (arith, long))
  done_all [] (v ∷ vs) shares new worked is = absurd worked
  done_all (w ∷ ws) [] shares new worked is = absurd worked
  done_all (w ∷ ws) (v ∷ vs) [] new worked is = absurd (let long = ap length is in omega (arith, long))
  done_all (w ∷ ws) (v ∷ vs) (s ∷ shares) new worked is = (
    done_one w v s new.0 worked.0 (sym (ap (λ (l : List (Result (Share M) AskFault)). get_or l 0 (Err Memory)) is)),
    done_all ws vs shares new.1 worked.1 (ap (drop 1) is),
  )

times_append : (x : ℕ) (xs ys : List ℕ) → times x (xs ++ ys) ≡ times x xs + times x ys
times_append x xs ys = total_append (λ (n : ℕ). cond (n == x) 1 0) xs ys

module _ {D M : Type 0} (world : World) (comes : ℕ → Worlds → NameSet → M → Type 0) where
  pub are_single : (vs : List (Worker D M)) (shares : List (Share M)) → AllZip (IsDone world comes) vs shares → AreSingle vs
  are_single [] shares done = tt
  are_single (v ∷ vs) [] done = absurd done
  are_single (v ∷ vs) (s ∷ shares) done = (done.0.single, are_single vs shares done.1)

  -- some seat drew a number past the files
  pub some_mark : (vs : List (Worker D M)) (shares : List (Share M)) → AllZip (IsDone world comes) vs shares → 0 < length vs → 0 < total mark (lines_of vs)
  some_mark [] shares done any = absurd (omega (arith, any))
  some_mark (v ∷ vs) [] done any = absurd done
  some_mark (v ∷ vs) (s ∷ shares) done any = let one : mark (view_of v.station.seat).own ≡ 1 = ap (λ (b : Bool). cond b 1 0) done.0.past in omega (arith, one)

  -- what the seats claimed is what the shares have
  pub claims_are : (x : ℕ) (vs : List (Worker D M)) (shares : List (Share M)) → AllZip (IsDone world comes) vs shares → total (line_claims x) (lines_of vs) ≡ times x (map (λ (r : ℕ × M). r.0) (all_results shares))
  claims_are x [] [] done = refl
  claims_are x [] (s ∷ shares) done = absurd done
  claims_are x (v ∷ vs) [] done = absurd done
  claims_are x (v ∷ vs) (s ∷ shares) done =
      let first = ap (times x) done.0.claims in let rest = claims_are x vs shares done.1 in
      let both = ap (times x) (map-append (λ (r : ℕ × M). r.0) s.results.items (all_results shares)) ∙ times_append x (map (λ (r : ℕ × M). r.0) s.results.items) (map (λ (r : ℕ × M). r.0) (all_results shares)) in omega (arith, first, rest, both)

-- ---- all numbers are there

module _ {D M : Type 0} (table : TypeTable) (start : View) (holds : D → World) (finds faults : D → ℕ) (comes : ℕ → Worlds → NameSet → M → Type 0) where
  pub numbers_are : (k : ℕ) (ws vs : List (Worker D M)) (shares : List (Share M)) → AreSeatedFrom table start k ws → AllZip (HasWorked holds finds faults comes) ws vs → map (λ (s : Share M). Ok s) shares ≡ ends_of vs
      → (m : ℕ) → m < length vs → (l : Line) × IsIn (lines_of vs) l × (l.number ≡ start.given + (k + m))
  numbers_are k [] [] shares seated worked is m below = absurd (omega (arith, below))
  numbers_are k [] (v ∷ vs) shares seated worked is m below = absurd worked
  numbers_are k (w ∷ ws) [] shares seated worked is m below = absurd worked
  numbers_are k (w ∷ ws) (v ∷ vs) [] seated worked is m below = absurd (let long = ap length is in omega (arith, long))
  numbers_are k (w ∷ ws) (v ∷ vs) (s ∷ shares) seated worked is zero below =
      let ended : v.ended ≡ Ok s = sym (ap (λ (l : List (Result (Share M) AskFault)). get_or l 0 (Err Memory)) is) in
      let share : IsShare (holds w.station.door) comes (view_of w.station.seat) (view_of v.station.seat) (finds w.station.door) (finds v.station.door) s.results.items =
      subst (λ (e : Result (Share M) AskFault). IfOk e (λ (t : Share M). IsShare (holds w.station.door) comes (view_of w.station.seat) (view_of v.station.seat) (finds w.station.door) (finds v.station.door) t.results.items)) ended worked.0.ended.share in
      let own : (view_of v.station.seat).own.number ≡ start.given + k = ap (λ (l : Line). l.number) share.works.own ∙ ap (λ (u : View). u.own.number) seated.1 in
      ((view_of v.station.seat).own, (0, refl), omega (arith, own))
  numbers_are k (w ∷ ws) (v ∷ vs) (s ∷ shares) seated worked is (suc m) below =
      let later = numbers_are (k + 1) ws vs shares seated.2 worked.1 (ap (drop 1) is) m (omega (arith, below)) in
      let there = later.1 in let number = later.2 in (later.0, (suc there.0, there.1), omega (arith, number))

-- ---- names are filled

in_filter : {A : Type 0} (p : A → Bool) (xs : List A) (x : A) (k : ℕ) → get_elem? xs k ≡ some x → p x ≡ true → IsIn (filter p xs) x
in_filter p [] x k is so = absurd (cc)
in_filter p (y ∷ xs) x zero is so = let same : y ≡ x = some-injective y x is in let pass : p y ≡ true = ap p same ∙ so in rw pass (0, is)
in_filter {A} p (y ∷ xs) x (suc k) is so =
    let later = in_filter p xs x k is so in
    elim (p y) as (λ b. IsIn (cond b (y ∷ filter p xs) (filter p xs)) x) [ true ↦ (suc later.0, later.1) | false ↦ later ]

module _ (view : View) (parts : List Part) (shown : AreShown view parts) (l : Line) (there : IsIn view.joined l) where
  one_filled : (a : Asked) (name : Name) → a.part ≡ part_of name → a.name ≡ name → IsIn l.asked a → IsFilled parts name
  one_filled a name part is at =
      let p = part_of name in let x = shown p (omega arith) in let told = x.2.joined there.0 l there.1 in
      let kept = in_filter (λ (b : Asked). b.part == p) l.asked a at.0 at.1 (same_number a.part p part) in
      let named = told.named kept.0 a kept.1 in (x.0, a.place, x.1, (named.0, named.1, named.2 ∙ is))

  each_filled : (names : List Name) (looks : List Asked) → map made_at looks ≡ map lies_at names → ((a : Asked) → IsIn looks a → IsIn l.asked a) → AllByRecursion (IsFilled parts) names
  each_filled [] looks is within = tt
  each_filled (name ∷ names) [] is within = absurd (let long = ap length is in omega (arith, long))
  each_filled (name ∷ names) (a ∷ looks) is within =
      let here : made_at a ≡ lies_at name = ap (λ (xs : List (ℕ × Name)). get_or xs 0 (0, [])) is in
      (one_filled a name (ap (λ (x : ℕ × Name). x.0) here) (ap (λ (x : ℕ × Name). x.1) here) (within a (0, refl)), each_filled names looks (ap (drop 1) is) (λ b at. within b (suc at.0, at.1)))

  pub all_filled : (names : List Name) → AreLooksOf names l.asked → AllByRecursion (IsFilled parts) names
  all_filled names are = each_filled names l.asked are (λ a at. at)
