-- Seats of workers.
use Rattle.std.proofs.Common.{◌≡◌, ◌∙◌, ℕ, zero, suc, ◌+◌, ◌<◌, List, [], ◌∷◌, ◌++◌, map, reverse, length, get_or, refl, sym, ap, subst, arith}
use Rattle.std.specs.List.{All, AllByRecursion, AllZip}
use Rattle.std.proofs.lemmas.List.{append-nil, append_assoc, reverse-reverse}
use Rattle.pj_names.specs.ClassName.{NameSet}
use Rattle.pj_names.specs.Told.{Worlds}
use Rattle.pj_table.specs.Plays.{new_view, united}
use Rattle.pj_table.specs.Seats.{IsOf, view_of}
use Rattle.pj_table.specs.Worlds.{World}
use Rattle.pj_table.specs.declared.seat.TypeTable.{TypeTable}
use Rattle.pj_table.specs.declared.view.Line.{Line}
use Rattle.pj_table.specs.declared.view.View.{View}
use Rattle.pj_crew.proofs.Reversed.{all_reverse}
use Rattle.pj_crew.specs.Crew.{AreHired, AreSeatedAt, AreSeatedFrom, HasWorked, IsReady, doors_of, with_numbers_given, with_seats_of}
use Rattle.pj_crew.specs.Together.{AreOfWorld}
use Rattle.pj_crew.specs.declared.worker.Worker.{Worker}

-- one more worker gets the next number
pub seated_last : {D M : Type 0} (table : TypeTable) (start : View) (k n : ℕ) (workers : List (Worker D M)) (w : Worker D M) → n ≡ k + length workers → AreSeatedFrom table start k workers
    → IsOf table w.station.seat → view_of w.station.seat ≡ new_view (with_numbers_given n start) → AreSeatedFrom table start k (workers ++ w ∷ [])
seated_last table start k n [] w is so_far of view = let same : n ≡ k = omega (arith, is) in (of, view ∙ ap (λ (m : ℕ). new_view (with_numbers_given m start)) same, tt)
seated_last table start k n (v ∷ workers) w is so_far of view = (so_far.0, so_far.1, seated_last table start (k + 1) n workers w (omega (arith, is)) so_far.2 of view)

-- ---- joined seats

pub joined_last : {D M : Type 0} (workers : List (Worker D M)) (w : Worker D M) (v : View) → with_seats_of (workers ++ w ∷ []) v ≡ united (with_seats_of workers v) (view_of w.station.seat)
joined_last [] w v = refl
joined_last (u ∷ workers) w v = joined_last workers w (united v (view_of u.station.seat))

-- the lines of seats
abbrev pub lines_of : {D M : Type 0} → List (Worker D M) → List Line
lines_of {D} {M} workers = map (λ (w : Worker D M). (view_of w.station.seat).own) workers

-- into no seat another one was joined
abbrev pub AreSingle : {D M : Type 0} → List (Worker D M) → Type 0
AreSingle {D} {M} workers = AllByRecursion (λ (w : Worker D M). (view_of w.station.seat).joined ≡ []) workers

-- all that is known afterwards is that the lines are joined
pub joined_is : {D M : Type 0} (workers : List (Worker D M)) (v : View) → AreSingle workers → with_seats_of workers v ≡ record v { joined = v.joined ++ lines_of workers }
joined_is [] v single = λ i. record v { joined = sym (append-nil v.joined) i }
joined_is (w ∷ workers) v single =
    let own = (view_of w.station.seat).own in
    let one : united v (view_of w.station.seat) ≡ record v { joined = v.joined ++ own ∷ [] } = λ i. record v { joined = v.joined ++ own ∷ single.0 i } in
    ap (with_seats_of workers) one ∙ joined_is workers (record v { joined = v.joined ++ own ∷ [] }) single.1 ∙ (λ i. record v { joined = append_assoc v.joined (own ∷ []) (lines_of workers) i })

-- a member between others has what all have
pub all_last_of : {A : Type 0} (P : A → Type 0) (front : List A) (x : A) (back : List A) → AllByRecursion P (front ++ (x ∷ back)) → P x
all_last_of P [] x back all = all.0
all_last_of P (y ∷ front) x back all = all_last_of P front x back all.1

-- ---- workers that can begin, and those that worked

by_all : {A : Type 0} (P : A → Type 0) (xs : List A) → AllByRecursion P xs → (k : ℕ) (d : A) → k < length xs → P (get_or xs k d)
by_all P [] all k d below = absurd (omega (arith, below))
by_all P (x ∷ xs) all zero d below = all.0
by_all P (x ∷ xs) all (suc k) d below = by_all P xs all.1 k d (omega (arith, below))

-- the doors of those that were hired have the world
pub hired_world : {D M : Type 0} (table : TypeTable) (start : View) (holds : D → World) (world : World) (doors : List D) (ws : List (Worker D M)) → AreHired table start doors ws → AreOfWorld holds world doors → AreOfWorld holds world (doors_of ws)
hired_world {D} table start holds world doors ws hired all =
    subst (λ (l : List D). AreOfWorld holds world l) (ap reverse hired.doors_are ∙ reverse-reverse (doors_of ws)) (all_reverse (λ (d : D). holds d ≡ world) doors all)

readies : {D M : Type 0} (table : TypeTable) (start : View) (holds : D → World) (files k : ℕ) (ws : List (Worker D M)) → start.files ≡ files → AreSeatedFrom table start k ws → AreOfWorld holds start.world (doors_of ws) → AllByRecursion (IsReady table holds files) ws
readies table start holds files k [] is seated all = tt
readies table start holds files k (w ∷ ws) is seated all =
    ((seated.0, all.0 ∙ sym (ap (λ (v : View). v.world) seated.1), ap (λ (v : View). v.files) seated.1 ∙ is), readies table start holds files (k + 1) ws is seated.2 all.1)

pub all_ready : {D M : Type 0} (table : TypeTable) (start : View) (holds : D → World) (files : ℕ) (doors : List D) (ws : List (Worker D M)) → start.files ≡ files → AreHired table start doors ws → AreOfWorld holds start.world doors → All (IsReady table holds files) ws
all_ready table start holds files doors ws is hired all =
    by_all (IsReady table holds files) ws (readies table start holds files 0 ws is hired.seated (hired_world table start holds start.world doors ws hired all))

seats_from : {D M : Type 0} (table : TypeTable) (start : View) (k : ℕ) (ws : List (Worker D M)) → AreSeatedFrom table start k ws → AreSeatedAt table ws
seats_from table start k [] seated = tt
seats_from table start k (w ∷ ws) seated = (seated.0, seats_from table start (k + 1) ws seated.2)

-- after work they still have seats of the table
pub seats_after : {D M : Type 0} (table : TypeTable) (holds : D → World) (finds faults : D → ℕ) (comes : ℕ → Worlds → NameSet → M → Type 0) (ws vs : List (Worker D M)) → AllZip (HasWorked holds finds faults comes) ws vs → AreSeatedAt table ws → AreSeatedAt table vs
seats_after table holds finds faults comes [] [] worked at = tt
seats_after table holds finds faults comes [] (v ∷ vs) worked at = absurd worked
seats_after table holds finds faults comes (w ∷ ws) [] worked at = absurd worked
seats_after table holds finds faults comes (w ∷ ws) (v ∷ vs) worked at = (worked.0.ended.seat.0 ∙ at.0, seats_after table holds finds faults comes ws vs worked.1 at.1)

pub hired_seats : {D M : Type 0} (table : TypeTable) (start : View) (doors : List D) (ws : List (Worker D M)) → AreHired table start doors ws → AreSeatedAt table ws
hired_seats table start doors ws hired = seats_from table start 0 ws hired.seated
