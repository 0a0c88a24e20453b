use Rattle.std.proofs.Common.{◌≡◌, ℕ, ◌<◌, ◌^◌, ◌∷◌, ap, ◌∙◌, sym, List, subst, get_or, length, Bool, IfErr, Result, Ok, Err}
use Rattle.atomic_table.specs.Table.{rest}
use Rattle.pj_table.specs.Worlds.{World, IsAnswer, CountsFind}
use Rattle.pj_table.specs.Book.{asked, Grows}
use Rattle.pj_table.specs.Plays.{Grew, Holds}
use Rattle.pj_table.proofs.Books.{if_ok}
use Rattle.std.specs.Arc.{arc_value}
use Rattle.pj_table.specs.declared.view.Entry.{Entry}
use Rattle.pj_table.specs.declared.view.Look.{Look}
use Rattle.pj_table.specs.declared.part.Part.{Part}
use Rattle.pj_table.proofs.steps.visit.Goals as goal

pub slot_mut-requires : goal.slot_mut-requires
slot_mut-requires g c = let p = c.requires.part.0 in (c.requires.table, (p.0, p.1 ∙ ap (λ l. (c.args.part, p.0) ∷ rest l) (sym p.1)))

pub returns-clause-ok : goal.returns-clause-ok
returns-clause-ok g c = let me = c.args.seat.now.me in let p = c.requires.part.0 in let part = c.args.part in let name = c.args.name.now in let found : Part = c.slot_mut.result.now in let new : Part = c.look_up.new.self in
    let finds = g.D.ClassFinder.finds in let world = g.D.ClassFinder.holds c.args.door.now in
    let same : p.0 ≡ found = ap (λ (l : List (ℕ × Part)). (get_or l 0 (0, p.0)).1) (sym p.1 ∙ c.slot_mut.ensures.value) in
    let es : found.entries.items ≡ me.0.entries = ap (λ (y : Part). y.entries.items) (sym same) ∙ p.2 in let ls : found.looks.items ≡ me.0.looks = ap (λ (y : Part). y.looks.items) (sym same) ∙ p.3 in
    if_ok
    (λ r. (IsAnswer world name (arc_value r)) × ((place : ℕ) × (fill : Bool) × (CountsFind (finds c.args.door.now) (finds c.look_up.new.door) fill) × ((q : ℕ) → Grows world c.args.number found.entries.items found.looks.items (asked q place fill name) new.entries.items new.looks.items)) × (length new.looks.items < 2 ^ 64))
    (λ r. (IsAnswer me.0.world name (arc_value r)) × Grew part (me.0, (part, new) ∷ rest me.1) name (CountsFind (finds c.args.door.now) (finds c.look_up.new.door)))
    c.look_up.result
    (λ r t. (
      subst (λ (w : World). IsAnswer w name (arc_value r)) c.requires.seat.1 t.0,
      (
        new,
        asked part t.1.0 t.1.1 name,
        ap (λ (l : List (ℕ × Part)). (part, new) ∷ rest l) p.1,
        (λ _. part),
        (λ _. name),
        t.1.2,
        subst (λ (z : (World × ℕ) × (List Entry × List Look)). Grows z.0.0 z.0.1 z.1.0 z.1.1 (asked part t.1.0 t.1.1 name) new.entries.items new.looks.items)
            (λ j. ((c.requires.seat.1 j, c.requires.seat.0 j), (es j, ls j))) (t.1.3 part),
        t.2,
      ),
    ))
    c.look_up.ensures.ok

if_err : {A E : Type 0} (P Q : E → Type 0) (r : Result A E) → ((e : E) → P e → Q e) → IfErr r P → IfErr r Q
if_err P Q (Ok a) f h = tt
if_err P Q (Err e) f h = f e h

pub returns-clause-err : goal.returns-clause-err
returns-clause-err g c = let me = c.args.seat.now.me in let p = c.requires.part.0 in let part = c.args.part in let found : Part = c.slot_mut.result.now in let new : Part = c.look_up.new.self in
    let same : p.0 ≡ found = ap (λ (l : List (ℕ × Part)). (get_or l 0 (0, p.0)).1) (sym p.1 ∙ c.slot_mut.ensures.value) in
    if_err (λ _. (new.entries.items ≡ found.entries.items) × (new.looks.items ≡ found.looks.items)) (λ _. Holds part (me.0, (part, new) ∷ rest me.1)) c.look_up.result
    (λ e t. (new, ap (λ (l : List (ℕ × Part)). (part, new) ∷ rest l) p.1, t.0 ∙ ap (λ (y : Part). y.entries.items) (sym same) ∙ p.2, t.1 ∙ ap (λ (y : Part). y.looks.items) (sym same) ∙ p.3)) c.look_up.ensures.err
