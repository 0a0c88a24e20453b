use Rattle.std.proofs.Common.{◌≡◌, ℕ, ◌++◌, ◌∷◌, [], List, ap, ◌∙◌, sym, arith, length, true, subst}
use Rattle.pj_names.specs.declared.answer.Answer.{Answer}
use Rattle.pj_table.specs.Worlds.{IsAnswer}
use Rattle.pj_table.proofs.Books.{grows, grown}
use Rattle.std.specs.Arc.{arc_value}
use Rattle.pj_table.specs.Book.{asked}
use Rattle.pj_table.specs.declared.view.Entry.{Entry}
use Rattle.pj_table.specs.Index.{IsIndex}
use Rattle.pj_table.proofs.Indexes.{index_push}
use Rattle.pj_table.proofs.part.Part.fill.Goals as goal

pub returns-clause-ok : goal.returns-clause-ok
returns-clause-ok g c = let world = g.D.ClassFinder.holds c.args.door.now in let es = c.args.self.now.entries.items in let ls = c.args.self.now.looks.items in let name = c.args.name.now in let seat = c.args.seat in
    let e : Entry = record { name = name; answer = c.in-Ok-new.answer } in
    let place : c.len-place.result ≡ length es = (let f = c.reserve.new.self.ok in let r = ap (λ (l : List Entry). length l) c.reserve.ensures.items in let h = c.len-place.ensures in omega arith) in
    let right : IsAnswer world name (arc_value c.in-Ok-new.answer) = subst (λ (a : Answer). IsAnswer world name a) (sym c.in-Ok-new.ensures.ok) c.in-Ok-read_answer.ensures.answer in
    let room = c.push_reserved-2.new.self.ok in let small = c.push_reserved-2.new.self.small in (
      subst (λ (a : Answer). IsAnswer world name a) (sym c.in-Ok-try_clone.ensures) right,
      (
        c.read_answer.ensures.finds,
        (λ part. grown world seat es ls (asked part (length es) true name) (es ++ e ∷ []) c.push_reserved.new.self.items (ls ++ record { seat = seat; place = length es; fill = true } ∷ []) c.push_reserved-2.new.self.items
            (grows world seat es ls name (length es) part c.requires.good c.in-Ok-new.answer right c.requires.absent (λ _. length es))
            (c.push_reserved.ensures.items ∙ (λ j. c.reserve.ensures.items j ++ record { name = c.in-Ok.ensures j; answer = c.in-Ok-new.answer } ∷ []))
            (c.push_reserved-2.ensures.items ∙ ap (λ (n : ℕ). ls ++ record { seat = seat; place = n; fill = true } ∷ []) place)),
      ),
      omega arith,
    )

pub invariant_of-self-2 : goal.invariant_of-self-2
invariant_of-self-2 g c = let s = c.args.self.now in let es = s.entries.items in
    let e : Entry = record { name = c.args.name.now; answer = c.in-Ok-new.answer } in
    let place : c.len-place.result ≡ length es = (let f = c.reserve.new.self.ok in let r = ap (λ (l : List Entry). length l) c.reserve.ensures.items in let h = c.len-place.ensures in omega arith) in
    let items : c.push_reserved.new.self.items ≡ es ++ e ∷ [] = c.push_reserved.ensures.items ∙ (λ j. c.reserve.ensures.items j ++ record { name = c.in-Ok.ensures j; answer = c.in-Ok-new.answer } ∷ []) in
    record { indexed = subst (λ (l : List Entry). IsIndex l c.insert.new.self.entries) (sym items) (index_push es e s.places.entries c.insert.new.self.entries c.in-Ok-copied.key c.len-place.result c.in-Ok-copied.ensures place c.requires.absent s.indexed c.in-Ok-insert.ensures.updates.0) }
