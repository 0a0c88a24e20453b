-- Doors that are opened and shut.
use Rattle.std.proofs.Common.{◌≡◌, ◌≢◌, ◌∙◌, ℕ, Bool, eq-eqb, ne_eqb, zero, suc, ◌+◌, ◌<◌, List, [], ◌∷◌, length, refl, sym, ap, subst, arith}
use Rattle.std.specs.Bool.{MatchBool}
use Rattle.std.specs.List.{AllByRecursion}
use Rattle.pj_outside.specs.Doors.{TakesFaults}
use Rattle.pj_outside.specs.Faults.{Rises, next_count}
use Rattle.pj_table.specs.Worlds.{World}
use Rattle.pj_crew.specs.Opening.{IsNewDoor, counted_on}
use Rattle.pj_crew.specs.Together.{AreOfOneWorld, AreOfWorld, first_world}

module _ {D : Type 0} (holds : D → World) (finds faults : D → ℕ) (world : World) where
  of_world : (doors : List D) → AllByRecursion (IsNewDoor holds finds faults world) doors → AreOfWorld holds world doors
  of_world [] new = tt
  of_world (door ∷ doors) new = (new.0.world_is, of_world doors new.1)

  -- doors that were just opened have one world
  pub one_world : (doors : List D) → AllByRecursion (IsNewDoor holds finds faults world) doors → AreOfOneWorld holds doors
  one_world [] new = tt
  one_world (door ∷ doors) new = subst (λ (w : World). AreOfWorld holds w (door ∷ doors)) (sym new.0.world_is) (of_world (door ∷ doors) new)

  pub first_is : (doors : List D) → 0 < length doors → AllByRecursion (IsNewDoor holds finds faults world) doors → first_world holds doors ≡ world
  first_is [] any new = absurd (omega (arith, any))
  first_is (door ∷ doors) any new = new.0.world_is

-- ---- faults

takes_none : (old new n : ℕ) → n ≡ 0 → TakesFaults old new n → new ≡ old
takes_none old new n none all = subst (λ (b : Bool). MatchBool b (new ≡ old) (Rises old new)) (eq-eqb n 0 none) all

takes_some : (old new n : ℕ) → n ≢ 0 → TakesFaults old new n → Rises old new
takes_some old new n other all = subst (λ (b : Bool). MatchBool b (new ≡ old) (Rises old new)) (ne_eqb n 0 other) all

stays : (old new n : ℕ) → n ≡ 0 → new ≡ old → TakesFaults old new n
stays old new n none is = subst (λ (b : Bool). MatchBool b (new ≡ old) (Rises old new)) (sym (eq-eqb n 0 none)) is

rises : (old new n : ℕ) → n ≢ 0 → Rises old new → TakesFaults old new n
rises old new n other is = subst (λ (b : Bool). MatchBool b (new ≡ old) (Rises old new)) (sym (ne_eqb n 0 other)) is

-- one more door is taken
pub takes_more : (old mid new f t : ℕ) → TakesFaults old mid t → TakesFaults mid new f → TakesFaults old new (f + t)
takes_more old mid new zero zero all one = stays old new (zero + zero) (omega arith) (takes_none mid new zero refl one ∙ takes_none old mid zero refl all)
takes_more old mid new zero (suc t) all one =
    let a = takes_some old mid (suc t) (λ e. omega (arith, e)) all in let same = takes_none mid new zero refl one in let b = a.never_falls in let d = a.rose in
    rises old new (zero + suc t) (λ e. omega (arith, e)) (record { never_falls = omega (arith, b, same); rose = omega (arith, d, same) })
takes_more old mid new (suc f) zero all one =
    let a = takes_some mid new (suc f) (λ e. omega (arith, e)) one in let same = takes_none old mid zero refl all in let b = a.never_falls in let d = a.rose in
    rises old new (suc f + zero) (λ e. omega (arith, e)) (record { never_falls = omega (arith, b, same); rose = omega (arith, d, same) })
takes_more old mid new (suc f) (suc t) all one =
    let a = takes_some mid new (suc f) (λ e. omega (arith, e)) one in let c = takes_some old mid (suc t) (λ e. omega (arith, e)) all in
    let b = a.never_falls in let d = c.never_falls in let r = c.rose in
    rises old new (suc f + suc t) (λ e. omega (arith, e)) (record { never_falls = omega (arith, b, d); rose = omega (arith, b, r) })

-- ---- counts of doors

-- one door more
pub counted_more : (more count : ℕ) → counted_on (more + 1) count ≡ next_count (counted_on more count)
counted_more more count = let next : more + 1 ≡ suc more = omega arith in ap (λ (n : ℕ). counted_on n count) next
