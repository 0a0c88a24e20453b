use Rattle.std.proofs.Common.{rules, ◌≡◌, ℕ, ◌++◌, ◌∷◌, [], List, ap, ◌∙◌, sym, arith, length, false, true, Bool, subst, ◌<◌, ◌^◌}
use Rattle.atomic_table.proofs.Lists.{at_index}
use Rattle.pj_table.proofs.Books.{hits, grown, at_there, same_entry, if_ok}
use Rattle.pj_names.specs.ClassName.{Name}
use Rattle.pj_names.specs.declared.answer.Answer.{Answer}
use Rattle.pj_table.specs.Worlds.{IsAnswer, CountsFind}
use Rattle.pj_table.specs.Book.{asked, Grows}
use Rattle.std.specs.Arc.{arc_value}
use Rattle.pj_table.specs.declared.view.Entry.{Entry}
use Rattle.pj_table.specs.declared.view.Look.{Look}
use Rattle.pj_table.proofs.part.Part.look_up.Goals as goal

pub index-requires : goal.index-requires
index-requires g c = let b = c.in-Some.ensures.some in let a = at_there c.args.self.now.entries.items c.in-Some.at b.0 b.1 in let f = c.args.self.now.entries.ok in omega arith

pub returns-in-Ok-clause-ok : goal.returns-in-Ok-clause-ok
returns-in-Ok-clause-ok g c = let world = g.D.ClassFinder.holds c.args.door.now in let es = c.args.self.now.entries.items in let ls = c.args.self.now.looks.items in let name = c.args.name.now in let seat = c.args.seat in
    let there = c.in-Some.ensures.some in let at = c.in-Some.at in
    let read = at_index es at c.index.result.now (at_there es at there.0 there.1) c.index.ensures in
    let same : there.0 ≡ c.index.result.now = same_entry es at at there.0 c.index.result.now there.1 read (λ _. at) in
    let right : IsAnswer world name (arc_value there.0.answer) = subst (λ (n : Name). IsAnswer world n (arc_value there.0.answer)) there.2 (c.requires.answers at there.0 there.1) in
    let room = c.push_reserved.new.self.ok in let small = c.push_reserved.new.self.small in (
      subst (λ (a : Answer). IsAnswer world name a) (sym (c.in-Ok.ensures ∙ ap (λ (y : Entry). arc_value y.answer) (sym same))) right,
      (
        at,
        false,
        search rules,
        (λ part. grown world seat es ls (asked part at false name) es es (ls ++ record { seat = seat; place = at; fill = false } ∷ []) c.push_reserved.new.self.items
            (hits world seat es ls name at part c.requires there.0 there.1 there.2) (λ _. es) (c.push_reserved.ensures.items ∙ ap (λ (l : List Look). l ++ record { seat = seat; place = at; fill = false } ∷ []) c.reserve.ensures.items)),
      ),
      omega arith,
    )

pub returns-in-None-clause-ok : goal.returns-in-None-clause-ok
returns-in-None-clause-ok g c = let world = g.D.ClassFinder.holds c.args.door.now in let es = c.args.self.now.entries.items in let old = c.args.self.now.looks.items in let name = c.args.name.now in let seat = c.args.seat in
    let new = c.fill.new.self in let finds = g.D.ClassFinder.finds in
    if_ok
    (λ r. (IsAnswer world name (arc_value r)) × ((CountsFind (finds c.args.door.now) (finds c.fill.new.door) true) × ((part : ℕ) → Grows world seat es c.reserve.new.self.items (asked part (length es) true name) new.entries.items new.looks.items)) × (length new.looks.items < 2 ^ 64))
    (λ r. (IsAnswer world name (arc_value r)) × ((place : ℕ) × (fill : Bool) × (CountsFind (finds c.args.door.now) (finds c.fill.new.door) fill) × ((part : ℕ) → Grows world seat es old (asked part place fill name) new.entries.items new.looks.items)) × (length new.looks.items < 2 ^ 64))
    c.fill.result
    (λ r t. (t.0, (length es, true, t.1.0, (λ part. subst (λ (z : List Look). Grows world seat es z (asked part (length es) true name) new.entries.items new.looks.items) c.reserve.ensures.items (t.1.1 part))), t.2))
    c.fill.ensures.ok
