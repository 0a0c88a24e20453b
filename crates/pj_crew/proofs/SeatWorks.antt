-- What was done at each seat.
use Rattle.std.proofs.Common.{◌≡◌, ◌∙◌, ℕ, zero, suc, ◌+◌, ◌<◌, List, [], ◌∷◌, ◌++◌, map, reverse, length, drop, refl, sym, ap, subst, arith, get_or, inl, inr}
use Rattle.std.specs.Prelude.{◌⊎◌, Result, Ok, Err, IfOk}
use Rattle.std.specs.List.{AllByRecursion, AllZip, Contains, flat_map}
use Rattle.std.proofs.lemmas.List.{length-append, map-append}
use Rattle.pj_names.specs.declared.oracle.AskFault.{AskFault}
use Rattle.pj_names.specs.declared.oracle.AskFault.TheVariants.{Memory}
use Rattle.pj_names.specs.ClassName.{Name, NameSet}
use Rattle.pj_names.specs.Told.{Worlds}
use Rattle.pj_seats.specs.declared.worker.Share.{Share}
use Rattle.pj_seats.specs.Looks.{AreLooksOf, CountsFinds}
use Rattle.pj_seats.specs.Working.{IsMadeOf, IsShare}
use Rattle.pj_table.specs.Rule.{Shows}
use Rattle.pj_table.specs.Seats.{view_of}
use Rattle.pj_table.specs.Worlds.{World}
use Rattle.pj_table.specs.declared.seat.TypeTable.{TypeTable}
use Rattle.pj_table.specs.declared.part.Part.{Part}
use Rattle.pj_table.specs.declared.view.Asked.{Asked}
use Rattle.pj_table.specs.declared.view.Line.{Line}
use Rattle.pj_table.specs.declared.view.View.{View}
use Rattle.pj_crew.proofs.Joined.{IsDone, IsNew, all_filled}
use Rattle.pj_crew.proofs.Lists.{in_first, in_later}
use Rattle.pj_crew.proofs.Reversed.{IsIn, reverse_first}
use Rattle.pj_crew.proofs.Seated.{lines_of}
use Rattle.pj_crew.specs.Crew.{AreSeatedFrom, AreShown, HasWorked, doors_of, ends_of}
use Rattle.pj_crew.specs.Placing.{all_results}
use Rattle.pj_crew.specs.Together.{AreNumbered, HasLooks, HaveFound, IsFilled, IsMadeOver, SeatWork, claimed_by, names_of}
use Rattle.pj_crew.specs.declared.worker.Worker.{Worker}

-- files with the names that were asked for them
abbrev with_names : {M : Type 0} → List (ℕ × M) → List (List Name) → List (ℕ × List Name)
with_names [] asked = []
with_names (r ∷ results) [] = []
with_names (r ∷ results) (names ∷ asked) = (r.0, names) ∷ with_names results asked

in_front : {A : Type 0} (xs ys : List A) (x : A) (k : ℕ) → k < length xs → get_or xs k x ≡ x → Contains (xs ++ ys) x
in_front [] ys x k below is = absurd (omega (arith, below))
in_front (y ∷ xs) ys x zero below is = in_first y x (xs ++ ys) is
in_front (y ∷ xs) ys x (suc k) below is = in_later y x (xs ++ ys) (in_front xs ys x k (omega (arith, below)) is)

in_back : {A : Type 0} (xs ys : List A) (x : A) → Contains ys x → Contains (xs ++ ys) x
in_back [] ys x at = at
in_back (y ∷ xs) ys x at = in_later y x (xs ++ ys) (in_back xs ys x at)

piece_of : {A : Type 0} (P : A → Type 0) (piece rest : List A) → AllByRecursion P (piece ++ rest) → AllByRecursion P piece × AllByRecursion P rest
piece_of P [] rest all = (tt, all)
piece_of P (x ∷ piece) rest all = let more = piece_of P piece rest all.1 in ((all.0, more.0), more.1)

in_either : {M : Type 0} (xs ys : List (ℕ × M)) (r : ℕ × M) (k : ℕ) → k < length (xs ++ ys) → get_or (xs ++ ys) k r ≡ r → Contains xs r ⊎ Contains ys r
in_either [] ys r k below is = inr (k, below, is)
in_either (x ∷ xs) ys r zero below is = inl (0, omega arith, is)
in_either (x ∷ xs) ys r (suc k) below is = elim (in_either xs ys r k (omega (arith, below)) is) [ inl at ↦ inl (suc at.0, (let l = at.1 in omega arith), at.2) | inr at ↦ inr at ]

-- seats with the numbers from one on down to the one behind k
abbrev AreDown : {D M : Type 0} → ℕ → List (Worker D M) → Type 0
AreDown k [] = Unit {0}
AreDown k (v ∷ vs) = ((view_of v.station.seat).own.number ≡ 1 + (k + length vs)) × AreDown k vs

down_last : {D M : Type 0} (k : ℕ) (vs : List (Worker D M)) (v : Worker D M) → AreDown (k + 1) vs → (view_of v.station.seat).own.number ≡ 1 + k → AreDown k (vs ++ v ∷ [])
down_last k [] v down is = (omega (arith, is), tt)
down_last k (u ∷ vs) v down is = (let number = down.0 in let long = length-append vs (v ∷ []) in omega (arith, number, long), down_last k vs v down.1 is)

module _ {M : Type 0} (world : World) (comes : ℕ → Worlds → NameSet → M → Type 0) where
  abbrev Made : List (ℕ × M) → List (List Name) → Type 0
  Made results asked = AllZip (λ (r : ℕ × M) names. IsMadeOf world (comes r.0) r.1 names) results asked

  same_numbers : (results : List (ℕ × M)) (asked : List (List Name)) → Made results asked → map (λ (f : ℕ × List Name). f.0) (with_names results asked) ≡ map (λ (r : ℕ × M). r.0) results
  same_numbers [] [] made = refl
  same_numbers [] (names ∷ asked) made = absurd made
  same_numbers (r ∷ results) [] made = absurd made
  same_numbers (r ∷ results) (names ∷ asked) made = ap (λ (l : List ℕ). r.0 ∷ l) (same_numbers results asked made.1)

  same_names : (results : List (ℕ × M)) (asked : List (List Name)) → Made results asked → flat_map (λ (f : ℕ × List Name). f.1) (with_names results asked) ≡ flat_map (λ (names : List Name). names) asked
  same_names [] [] made = refl
  same_names [] (names ∷ asked) made = absurd made
  same_names (r ∷ results) [] made = absurd made
  same_names (r ∷ results) (names ∷ asked) made = ap (λ (l : List Name). names ++ l) (same_names results asked made.1)

  -- what came of one file of a share
  abbrev InShare : List Part → List (ℕ × List Name) → ℕ × M → Type 0
  InShare parts files r = (names : List Name) × Contains files (r.0, names) × IsMadeOf world (comes r.0) r.1 names × AllByRecursion (IsFilled parts) names

  in_share : (parts : List Part) (results : List (ℕ × M)) (asked : List (List Name)) (r : ℕ × M) (k : ℕ) → Made results asked → AllByRecursion (IsFilled parts) (flat_map (λ (names : List Name). names) asked)
      → k < length results → get_or results k r ≡ r → InShare parts (with_names results asked) r
  in_share parts [] asked r k made filled below is = absurd (omega (arith, below))
  in_share parts (s ∷ results) [] r k made filled below is = absurd made
  in_share parts (s ∷ results) (names ∷ asked) r zero made filled below is =
      subst (λ (t : ℕ × M). InShare parts (with_names (s ∷ results) (names ∷ asked)) t) is
      (names, in_first (s.0, names) (s.0, names) (with_names results asked) refl, made.0, (piece_of (IsFilled parts) names (flat_map (λ (l : List Name). l) asked) filled).0)
  in_share parts (s ∷ results) (names ∷ asked) r (suc k) made filled below is =
      let later = in_share parts results asked r k made.1 (piece_of (IsFilled parts) names (flat_map (λ (l : List Name). l) asked) filled).1 (omega (arith, below)) is in
      (later.0, in_later (s.0, names) (r.0, later.0) (with_names results asked) later.1, later.2, later.3)

  module _ {D : Type 0} where
    abbrev seat_work : (v : Worker D M) (share : Share M) → IsDone world comes v share → SeatWork
    seat_work v share done = record { number = (view_of v.station.seat).own.number; files = with_names share.results.items done.asked; looks = (view_of v.station.seat).own.asked }

    -- what was done at the seats of workers
    abbrev pub works_of : (vs : List (Worker D M)) (shares : List (Share M)) → AllZip (IsDone world comes) vs shares → List SeatWork
    works_of [] [] done = []
    works_of [] (s ∷ shares) done = []
    works_of (v ∷ vs) [] done = []
    works_of (v ∷ vs) (s ∷ shares) done = seat_work v s done.0 ∷ works_of vs shares done.1

    pub many_works : (vs : List (Worker D M)) (shares : List (Share M)) (done : AllZip (IsDone world comes) vs shares) → length (works_of vs shares done) ≡ length vs
    many_works [] [] done = refl
    many_works [] (s ∷ shares) done = absurd done
    many_works (v ∷ vs) [] done = absurd done
    many_works (v ∷ vs) (s ∷ shares) done = ap suc (many_works vs shares done.1)

    -- the files of the seats are those of the shares
    pub same_files : (vs : List (Worker D M)) (shares : List (Share M)) (done : AllZip (IsDone world comes) vs shares)
        → map (λ (f : ℕ × List Name). f.0) (claimed_by (works_of vs shares done)) ≡ map (λ (r : ℕ × M). r.0) (all_results shares)
    same_files [] [] done = refl
    same_files [] (s ∷ shares) done = absurd done
    same_files (v ∷ vs) [] done = absurd done
    same_files (v ∷ vs) (s ∷ shares) done =
        let first = with_names s.results.items done.0.asked in let later = claimed_by (works_of vs shares done.1) in
        map-append (λ (f : ℕ × List Name). f.0) first later
        ∙ ap (λ (l : List ℕ). l ++ map (λ (f : ℕ × List Name). f.0) later) (same_numbers s.results.items done.0.asked done.0.made)
        ∙ ap (λ (l : List ℕ). map (λ (r : ℕ × M). r.0) s.results.items ++ l) (same_files vs shares done.1)
        ∙ sym (map-append (λ (r : ℕ × M). r.0) s.results.items (all_results shares))

    -- each seat looked for the names of its files
    pub all_looks : (vs : List (Worker D M)) (shares : List (Share M)) (done : AllZip (IsDone world comes) vs shares) → AllByRecursion (λ (seat : SeatWork). AreLooksOf (names_of seat) seat.looks) (works_of vs shares done)
    all_looks [] [] done = tt
    all_looks [] (s ∷ shares) done = absurd done
    all_looks (v ∷ vs) [] done = absurd done
    all_looks (v ∷ vs) (s ∷ shares) done = (
      subst (λ (names : List Name). AreLooksOf names (view_of v.station.seat).own.asked) (sym (same_names s.results.items done.0.asked done.0.made)) done.0.looks,
      all_looks vs shares done.1,
    )

    -- what a part shows of each seat
    pub all_told : (view : View) (p : ℕ) (x : Part) → Shows view p x → (vs : List (Worker D M)) (shares : List (Share M)) (done : AllZip (IsDone world comes) vs shares) → ((l : Line) → IsIn (lines_of vs) l → IsIn view.joined l)
        → AllByRecursion (HasLooks p x) (works_of vs shares done)
    all_told view p x shows [] [] done within = tt
    all_told view p x shows [] (s ∷ shares) done within = absurd done
    all_told view p x shows (v ∷ vs) [] done within = absurd done
    all_told view p x shows (v ∷ vs) (s ∷ shares) done within =
        let own = (view_of v.station.seat).own in let at = within own (0, refl) in
        (shows.joined at.0 own at.1, all_told view p x shows vs shares done.1 (λ l there. within l (suc there.0, there.1)))

    pub made_over : (parts : List Part) (view : View) → AreShown view parts → (vs : List (Worker D M)) (shares : List (Share M)) (r : ℕ × M) (done : AllZip (IsDone world comes) vs shares) → ((l : Line) → IsIn (lines_of vs) l → IsIn view.joined l)
        → Contains (all_results shares) r → IsMadeOver world (comes r.0) parts (works_of vs shares done) r.0 r.1
    made_over parts view shown [] [] r done within at = let below = at.1 in absurd (omega (arith, below))
    made_over parts view shown [] (s ∷ shares) r done within at = absurd done
    made_over parts view shown (v ∷ vs) [] r done within at = absurd done
    made_over parts view shown (v ∷ vs) (s ∷ shares) r done within at =
        let own = (view_of v.station.seat).own in let first = with_names s.results.items done.0.asked in let later = claimed_by (works_of vs shares done.1) in
        elim (in_either s.results.items (all_results shares) r at.0 at.1 at.2) [
          | inl here ↦
              (let found = in_share parts s.results.items done.0.asked r here.0 done.0.made (all_filled view parts shown own (within own (0, refl)) (flat_map (λ (l : List Name). l) done.0.asked) done.0.looks) here.1 here.2 in
              record { names = found.0; claimed = in_front first later (r.0, found.0) found.1.0 found.1.1 found.1.2; made_so = found.2; filled = found.3 })
          | inr there ↦
              (let found = made_over parts view shown vs shares r done.1 (λ l at. within l (suc at.0, at.1)) there in
              record { names = found.names; claimed = in_back first later (r.0, found.names) found.claimed; made_so = found.made_so; filled = found.filled })
        ]

    -- ---- numbers of seats

    pub numbered : (vs : List (Worker D M)) (shares : List (Share M)) (done : AllZip (IsDone world comes) vs shares) → AreDown 0 vs → AreNumbered (works_of vs shares done)
    numbered [] [] done down = tt
    numbered [] (s ∷ shares) done down = absurd done
    numbered (v ∷ vs) [] done down = absurd done
    numbered (v ∷ vs) (s ∷ shares) done down = (let number = down.0 in let many = many_works vs shares done.1 in omega (arith, number, many), numbered vs shares done.1 down.1)

-- ---- by what workers did

module _ {D M : Type 0} (start : View) (holds : D → World) (finds faults : D → ℕ) (comes : ℕ → Worlds → NameSet → M → Type 0) where
  share_of : (w v : Worker D M) (share : Share M) → HasWorked holds finds faults comes w v → v.ended ≡ Ok share
      → IsShare (holds w.station.door) comes (view_of w.station.seat) (view_of v.station.seat) (finds w.station.door) (finds v.station.door) share.results.items
  share_of w v share worked is =
      subst (λ (e : Result (Share M) AskFault). IfOk e (λ (t : Share M). IsShare (holds w.station.door) comes (view_of w.station.seat) (view_of v.station.seat) (finds w.station.door) (finds v.station.door) t.results.items)) is worked.ended.share

  first_is : (share : Share M) (shares : List (Share M)) (v : Worker D M) (vs : List (Worker D M)) → map (λ (s : Share M). Ok s) (share ∷ shares) ≡ ends_of (v ∷ vs) → v.ended ≡ Ok share
  first_is share shares v vs is = sym (ap (λ (l : List (Result (Share M) AskFault)). get_or l 0 (Err Memory)) is)

  pub all_found : (world : World) (ws vs : List (Worker D M)) (shares : List (Share M)) → AllByRecursion (IsNew start holds world) ws → AllZip (HasWorked holds finds faults comes) ws vs → map (λ (s : Share M). Ok s) shares ≡ ends_of vs
      → (done : AllZip (IsDone world comes) vs shares) → HaveFound finds (doors_of ws) (doors_of vs) (works_of world comes vs shares done)
  all_found world [] [] [] new worked is done = tt
  all_found world [] [] (s ∷ shares) new worked is done = absurd done
  all_found world [] (v ∷ vs) shares new worked is done = absurd worked
  all_found world (w ∷ ws) [] shares new worked is done = absurd worked
  all_found world (w ∷ ws) (v ∷ vs) [] new worked is done = absurd done
  all_found world (w ∷ ws) (v ∷ vs) (s ∷ shares) new worked is done =
      let share = share_of w v s worked.0 (first_is s shares v vs is) in
      let before : (view_of w.station.seat).own.asked ≡ [] = ap (λ (u : View). u.own.asked) new.0.1 in (
        subst (λ (l : List Asked). CountsFinds (finds w.station.door) (finds v.station.door) (drop (length l) (view_of v.station.seat).own.asked)) before share.finds,
        all_found world ws vs shares new.1 worked.1 (ap (drop 1) is) done.1,
      )

  pub downs : (table : TypeTable) (k : ℕ) (ws vs : List (Worker D M)) (shares : List (Share M)) → start.given ≡ 1 → AreSeatedFrom table start k ws → AllZip (HasWorked holds finds faults comes) ws vs → map (λ (s : Share M). Ok s) shares ≡ ends_of vs
      → AreDown k (reverse vs)
  downs table k [] [] shares one seated worked is = tt
  downs table k [] (v ∷ vs) shares one seated worked is = absurd worked
  downs table k (w ∷ ws) [] shares one seated worked is = absurd worked
  downs table k (w ∷ ws) (v ∷ vs) [] one seated worked is = absurd (let long = ap length is in omega (arith, long))
  downs table k (w ∷ ws) (v ∷ vs) (s ∷ shares) one seated worked is =
      let share = share_of w v s worked.0 (first_is s shares v vs is) in
      let own : (view_of v.station.seat).own.number ≡ start.given + k = ap (λ (l : Line). l.number) share.works.own ∙ ap (λ (u : View). u.own.number) seated.1 in
      subst (λ (l : List (Worker D M)). AreDown k l) (sym (reverse_first v vs))
      (down_last k (reverse vs) v (downs table (k + 1) ws vs shares one seated.2 worked.1 (ap (drop 1) is)) (omega (arith, own, one)))
