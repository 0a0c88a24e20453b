-- What several workers come to, by what each of them did.
use Rattle.std.proofs.Common.{◌≡◌, ◌∙◌, ℕ, suc, ◌+◌, ◌-◌, ◌<◌, List, [], ◌∷◌, map, reverse, length, refl, sym, ap, subst, arith, get_or, inl, inr}
use Rattle.std.specs.Prelude.{◌⊎◌, Result, Ok}
use Rattle.std.specs.List.{AllByRecursion, AllZip}
use Rattle.std.proofs.lemmas.List.{length-map, length-reverse, reverse-reverse}
use mathlib.Core.Option.{some, some-injective}
use lib.ListN.{get_elem?}
use Rattle.pj_names.specs.declared.oracle.AskFault.{AskFault}
use Rattle.pj_names.specs.ClassName.{NameSet}
use Rattle.pj_names.specs.Told.{Worlds}
use Rattle.pj_seats.specs.declared.worker.Share.{Share}
use Rattle.pj_table.proofs.Books.{at_there}
use Rattle.pj_table.specs.Book.{IsSound, look_of, looks_of}
use Rattle.pj_table.specs.Names.{part_of}
use Rattle.pj_table.specs.Rule.{HasAll, Shows, claimed, line_claims, marks, newcomer, no_line, once_below, tale, times, total}
use Rattle.pj_table.specs.Seats.{view_of}
use Rattle.pj_table.specs.Worlds.{World}
use Rattle.pj_table.specs.declared.part.Part.{Part}
use Rattle.pj_table.specs.declared.seat.TypeTable.{TypeTable}
use Rattle.pj_table.specs.declared.view.Entry.{Entry}
use Rattle.pj_table.specs.declared.view.Line.{Line}
use Rattle.pj_table.specs.declared.view.View.{View}
use Rattle.pj_crew.proofs.Joined.{IsDone, IsNew, are_single, claims_are, done_all, numbers_are, some_mark}
use Rattle.pj_crew.proofs.Reversed.{IsIn, all_reverse, in_reverse, map_reverse, zip_reverse}
use Rattle.pj_crew.proofs.Seated.{joined_is, lines_of}
use Rattle.pj_crew.proofs.SeatWorks.{all_found, all_looks, all_told, downs, made_over, many_works, numbered, same_files, works_of}
use Rattle.pj_crew.specs.Crew.{AreHired, AreJoined, ArePut, AreSeatedFrom, AreShown, HasWorked, HaveWorked, doors_of, ends_of, with_numbers_given, with_seats_of}
use Rattle.pj_crew.specs.Placing.{AreOnceEach, ArePlaced, all_results}
use Rattle.pj_crew.specs.Together.{AreOfWorld, AreRightParts, HaveFound, IsMadeByAll, IsWorkOf, SeatWork}
use Rattle.pj_crew.specs.declared.worker.Worker.{Worker}

long_zip : {A B : Type 0} (R : A → B → Type 0) (xs : List A) (ys : List B) → AllZip R xs ys → length ys ≡ length xs
long_zip R [] [] all = refl
long_zip R [] (y ∷ ys) all = absurd all
long_zip R (x ∷ xs) [] all = absurd all
long_zip R (x ∷ xs) (y ∷ ys) all = ap suc (long_zip R xs ys all.1)

module _ {D M : Type 0} (table : TypeTable) (holds : D → World) (finds faults : D → ℕ) (world : World) (comes : ℕ → Worlds → NameSet → M → Type 0) (files : ℕ) where
  abbrev start : View
  start = newcomer world files 0 1

  news : (k : ℕ) (ws : List (Worker D M)) → AreSeatedFrom table start k ws → AreOfWorld holds world (doors_of ws) → AllByRecursion (IsNew start holds world) ws
  news k [] seated all = tt
  news k (w ∷ ws) seated all = ((k, seated.1, all.0), news (k + 1) ws seated.2 all.1)

  module _ (doors : List D) (ws vs : List (Worker D M)) (shares : List (Share M)) (last : View) (hired : AreHired table start doors ws) (of_world : AreOfWorld holds world doors)
      (worked : AllZip (HasWorked holds finds faults comes) ws vs) (ended : map (λ (s : Share M). Ok s) shares ≡ ends_of (reverse vs)) (last_is : last ≡ with_seats_of (reverse vs) (with_numbers_given (length ws) start)) where
    all_new : AllByRecursion (IsNew start holds world) ws
    all_new = news 0 ws hired.seated (subst (λ (l : List D). AreOfWorld holds world l) (ap reverse hired.doors_are ∙ reverse-reverse (doors_of ws)) (all_reverse (λ (d : D). holds d ≡ world) doors of_world))

    done : AllZip (IsDone world comes) (reverse vs) shares
    done = done_all start holds finds faults world comes (reverse ws) (reverse vs) shares (all_reverse (IsNew start holds world) ws all_new) (zip_reverse (HasWorked holds finds faults comes) ws vs worked) ended

    whole : last ≡ record (newcomer world files 0 (1 + length ws)) { joined = lines_of (reverse vs) }
    whole = last_is ∙ joined_is (reverse vs) (with_numbers_given (length ws) start) (are_single world comes (reverse vs) shares done)

    pub is_opening : last.own.number ≡ 0
    is_opening = ap (λ (v : View). v.own.number) whole

    in_order : map (λ (s : Share M). Ok s) (reverse shares) ≡ ends_of vs
    in_order =
        map_reverse (λ (s : Share M). Ok s) shares ∙ ap reverse ended ∙ ap reverse (map_reverse (λ (w : Worker D M). w.ended) vs) ∙ reverse-reverse (ends_of vs)

    pub has_all : HasAll last
    has_all = subst HasAll (sym whole) (λ n above below.
        let long = long_zip (HasWorked holds finds faults comes) ws vs worked in
        let one = numbers_are table start holds finds faults comes 0 ws vs (reverse shares) hired.seated worked in_order (n - 1) (omega (arith, above, below, long)) in
        let back = in_reverse (lines_of vs) one.0 one.1 in
        let there = subst (λ (l : List Line). IsIn l one.0) (sym (map_reverse (λ (w : Worker D M). (view_of w.station.seat).own) vs)) back in
        let number = one.2 in (there.0, one.0, there.1, omega (arith, number, above)))

    pub once_each : (0 < marks last → (x : ℕ) → claimed x last ≡ once_below x files) → 0 < length ws → AreOnceEach files (all_results shares)
    once_each claims any x =
        let long = long_zip (HasWorked holds finds faults comes) ws vs worked in
        let mark = some_mark world comes (reverse vs) shares done (let n = length-reverse vs in omega (arith, n, long, any)) in
        let marked : 0 < marks last = subst (λ (v : View). 0 < marks v) (sym whole) (omega (arith, mark)) in
        let are = claims_are world comes x (reverse vs) shares done in
        let joined : claimed x last ≡ 0 + total (line_claims x) (lines_of (reverse vs)) = ap (claimed x) whole in
        let once = claims marked x in omega (arith, are, joined, once)

    -- what was done at the seats
    abbrev seats : List SeatWork
    seats = works_of world comes (reverse vs) shares done

    within : (l : Line) → IsIn (lines_of (reverse vs)) l → IsIn last.joined l
    within l there = subst (λ (v : View). IsIn v.joined l) (sym whole) there

    shows_at : (parts : List Part) → AreShown last parts → length parts ≡ 64 → (p : ℕ) (x : Part) → get_elem? parts p ≡ some x → Shows last p x
    shows_at parts shown many p x at =
        let below : p < 64 = (let b = at_there parts p x at in omega (arith, b, many)) in let shows = shown p below in
        let same : shows.0 ≡ x = some-injective shows.0 x (sym shows.1 ∙ at) in subst (λ (y : Part). Shows last p y) same shows.2

    placed_at : (parts : List Part) → AreShown last parts → length parts ≡ 64 → (p : ℕ) (x : Part) → get_elem? parts p ≡ some x → (k : ℕ) (e : Entry) → get_elem? x.entries.items k ≡ some e → part_of e.name ≡ p
    placed_at parts shown many p x at =
        let below : p < 64 = (let b = at_there parts p x at in omega (arith, b, many)) in let shows = shown p below in
        let same : shows.0 ≡ x = some-injective shows.0 x (sym shows.1 ∙ at) in subst (λ (y : Part). (k : ℕ) (e : Entry) → get_elem? y.entries.items k ≡ some e → part_of e.name ≡ p) same shows.3

    no_others : (p n : ℕ) (x : Part) → Shows last p x → (n ≡ 0) ⊎ (length seats < n) → looks_of n x.looks.items ≡ []
    no_others p n x shows which =
        let own : last.own ≡ no_line 0 = ap (λ (v : View). v.own) whole in
        let given : last.given ≡ 1 + length ws = ap (λ (v : View). v.given) whole in
        let many = many_works world comes (reverse vs) shares done in let turned = length-reverse vs in let long = long_zip (HasWorked holds finds faults comes) ws vs worked in
        elim which [
          | inl none ↦ ap (λ (m : ℕ). looks_of m x.looks.items) (none ∙ sym (ap (λ (l : Line). l.number) own)) ∙ shows.own.same ∙ ap (λ (l : Line). map (look_of l.number) (tale p l).asked) own
          | inr more ↦ shows.others n (omega (arith, given, many, turned, long, more))
        ]

    work_of : (parts : List Part) → AreShown last parts → length parts ≡ 64 → AreOnceEach files (all_results shares) → IsWorkOf files parts seats
    work_of parts shown many once = record {
      numbered = numbered world comes (reverse vs) shares done (downs start holds finds faults comes table 0 ws vs (reverse shares) refl hired.seated worked in_order);
      once = λ n. ap (times n) (same_files world comes (reverse vs) shares done) ∙ once n;
      looks = all_looks world comes (reverse vs) shares done;
      told = λ p x at. all_told world comes last p x (shows_at parts shown many p x at) (reverse vs) shares done within;
      others = λ p n x at which. no_others p n x (shows_at parts shown many p x at) which;
    }

    right_parts : (parts : List Part) → AreShown last parts → length parts ≡ 64 → AreRightParts world parts
    right_parts parts shown many = record {
      many = many;
      each = λ p x at.
          let right_world : last.world ≡ world = ap (λ (v : View). v.world) whole in
          record { good = subst (λ (w : World). IsSound w x.entries.items x.looks.items) right_world (shows_at parts shown many p x at).good; placed = placed_at parts shown many p x at };
    }

    have_found : HaveFound finds (doors_of (reverse ws)) (doors_of (reverse vs)) seats
    have_found = all_found start holds finds faults comes world (reverse ws) (reverse vs) shares (all_reverse (IsNew start holds world) ws all_new) (zip_reverse (HasWorked holds finds faults comes) ws vs worked) ended done

    pub made_by_all : (after : List D) → after ≡ doors_of (reverse vs) → (parts : List Part) (made : List M) → AreShown last parts → length parts ≡ 64 → AreOnceEach files (all_results shares) → ArePlaced files (all_results shares) made
        → IsMadeByAll world comes finds files doors after made parts
    made_by_all after are parts made shown many once placed = record {
      seats = seats;
      many = placed.many;
      each = λ n d below. made_over world comes parts last shown (reverse vs) shares (n, get_or made n d) done within (placed.each n d below);
      right = right_parts parts shown many;
      work = work_of parts shown many once;
      found = subst (λ (l : List D). HaveFound finds l after seats) (sym (hired.doors_are ∙ sym (map_reverse (λ (w : Worker D M). w.station.door) ws)))
          (subst (λ (l : List D). HaveFound finds (doors_of (reverse ws)) l seats) (sym are) have_found);
    }

-- The same by what is said of the work of all.
module _ {D M : Type 0} (table : TypeTable) (holds : D → World) (finds faults : D → ℕ) (comes : ℕ → Worlds → NameSet → M → Type 0) (world : World) (files : ℕ) (before after : List D) (last : View) (ends : List (Result (Share M) AskFault)) where
  abbrev All : View → Type 0
  All first = HaveWorked table first holds finds faults comes before after last ends

  pub joined_of : (first : View) → first ≡ newcomer world files 0 1 → All first → AreOfWorld holds world before → 0 < length before → (shares : List (Share M)) → map (λ (s : Share M). Ok s) shares ≡ ends → AreJoined last files shares
  joined_of first is all of any shares ok =
      let work = subst (λ (v : View). All v) is all in
      let many : 0 < length work.before_work = (let a = ap length work.are_hired.doors_are in let b = length-reverse (map (λ (w : Worker D M). w.station.door) work.before_work) in let c = length-map work.before_work (λ (w : Worker D M). w.station.door) in omega (arith, a, b, c, any)) in (
        has_all table holds finds faults world comes files before work.before_work work.after_work shares last work.are_hired of work.each (ok ∙ work.ends_are) work.last_is,
        (λ claims. once_each table holds finds faults world comes files before work.before_work work.after_work shares last work.are_hired of work.each (ok ∙ work.ends_are) work.last_is claims many),
      )

  pub opening_of : (first : View) → first ≡ newcomer world files 0 1 → All first → AreOfWorld holds world before → (shares : List (Share M)) → map (λ (s : Share M). Ok s) shares ≡ ends → last.own.number ≡ 0
  opening_of first is all of shares ok =
      let work = subst (λ (v : View). All v) is all in
      is_opening table holds finds faults world comes files before work.before_work work.after_work shares last work.are_hired of work.each (ok ∙ work.ends_are) work.last_is

  pub made_of : (first : View) → first ≡ newcomer world files 0 1 → All first → AreOfWorld holds world before → (made : List M) (parts : List Part) → ArePut last files ends made parts → IsMadeByAll world comes finds files before after made parts
  made_of first is all of made parts put =
      let work = subst (λ (v : View). All v) is all in
      made_by_all table holds finds faults world comes files before work.before_work work.after_work put.shares last work.are_hired of work.each (put.all_ok ∙ work.ends_are) work.last_is after work.after_is parts made put.shown put.many put.once put.placed
