use Rattle.std.proofs.Common.{◌∙◌, ◌+◌, ◌++◌, ◌∷◌, [], ℕ, ap, arith, refl, reverse, subst, sym}
use Rattle.std.specs.List.{AllByRecursion}
use Rattle.std.proofs.lemmas.List.{append-nil, append_assoc, map-append}
use Rattle.pj_table.specs.Plays.{united}
use Rattle.pj_table.specs.Seats.{IsOf, view_of}
use Rattle.pj_table.specs.declared.view.View.{View}
use Rattle.pj_crew.proofs.Reversed.{reverse_last}
use Rattle.pj_crew.proofs.Seated.{all_last_of, joined_last}
use Rattle.pj_crew.specs.declared.worker.Worker.{Worker}
use Rattle.pj_crew.proofs.releasing.release.Goals as goal

pub loop-init : goal.loop-init
loop-init g c = record {
  table = (refl, refl);
  left = omega arith;
  room = c.requires.room.2;
  room_for_ends = c.requires.room_for_ends.2;
  so_far = ([], sym (append-nil c.args.workers.items), refl, c.requires.room.0, c.requires.room_for_ends.0);
  many = (c.requires.room.1, c.requires.room_for_ends.1);
}

pub loop-preserved : goal.loop-preserved
loop-preserved g c =
    let kept = c.loop.invariant in let so_far = kept.so_far in let gone = so_far.0 in let w = c.take_last-station.result in let rest = c.take_last-station.new.self.items in
    record {
      table = (c.join.ensures.table.0 ∙ kept.table.0, c.join.ensures.table.1 ∙ kept.table.1);
      left = (let a = c.take_last-station.ensures.len in let b = kept.left in omega arith);
      room = (let a = c.push_reserved.ensures.capacity in let b = kept.room in omega arith);
      room_for_ends = (let a = c.push_reserved-in-loop.ensures.capacity in let b = kept.room_for_ends in omega arith);
      so_far = (
        gone ++ w ∷ [],
        so_far.1 ∙ ap (λ l. l ++ reverse gone) c.take_last-station.ensures.items ∙ append_assoc rest (w ∷ []) (reverse gone) ∙ ap (λ l. rest ++ l) (sym (reverse_last gone w)),
        c.join.ensures.united ∙ ap (λ (v : View). united v (view_of w.station.seat)) so_far.2 ∙ sym (joined_last gone w (view_of c.args.seat.now)),
        c.push_reserved.ensures.items ∙ ap (λ l. l ++ w.station.door ∷ []) so_far.3 ∙ sym (map-append (λ (u : Worker g.row.D.Denot g.row.M.Denot). u.station.door) gone (w ∷ [])),
        c.push_reserved-in-loop.ensures.items ∙ ap (λ l. l ++ w.ended ∷ []) so_far.4 ∙ sym (map-append (λ (u : Worker g.row.D.Denot g.row.M.Denot). u.ended) gone (w ∷ [])),
      );
      many = (c.push_reserved.ensures.len ∙ ap (λ (n : ℕ). n + 1) kept.many.0, c.push_reserved-in-loop.ensures.len ∙ ap (λ (n : ℕ). n + 1) kept.many.1);
    }

-- the worker at the end has a seat of the table
pub join-requires : goal.join-requires
join-requires g c =
    let kept = c.loop.invariant in
    let all = subst (λ l. AllByRecursion (λ (u : Worker g.row.D.Denot g.row.M.Denot). IsOf c.args.table.now u.station.seat) l) (kept.so_far.1 ∙ ap (λ l. l ++ reverse kept.so_far.0) c.take_last-station.ensures.items ∙ append_assoc c.take_last-station.new.self.items (c.take_last-station.result ∷ []) (reverse kept.so_far.0)) c.requires.table.1 in
    record { table = (kept.table.0 ∙ c.requires.table.0, all_last_of (λ (u : Worker g.row.D.Denot g.row.M.Denot). IsOf c.args.table.now u.station.seat) c.take_last-station.new.self.items c.take_last-station.result (reverse kept.so_far.0) all) }
