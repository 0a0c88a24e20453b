use Rattle.std.proofs.Common.{◌≡◌, ◌∙◌, ◌+◌, ◌++◌, ◌∷◌, [], ℕ, List, ap, arith, length, refl, reverse, subst, sym}
use Rattle.std.proofs.lemmas.List.{append-nil, append_assoc, map-append}
use Rattle.pj_table.specs.Plays.{new_view, with_number_given}
use Rattle.pj_table.specs.Seats.{view_of}
use Rattle.pj_crew.proofs.Reversed.{reverse_last}
use Rattle.pj_crew.proofs.Seated.{seated_last}
use Rattle.pj_crew.specs.Crew.{AreSeatedFrom, doors_of}
use Rattle.pj_crew.specs.declared.worker.Worker.{Worker}
use Rattle.pj_crew.proofs.hiring.hire.Goals as goal

pub loop-init : goal.loop-init
loop-init g c =
    let v = view_of c.args.seat.now in let none = c.requires.room.0 in
    let same : v.given ≡ v.given + 0 = omega arith in
    record {
      table = (refl, refl);
      counted = λ i. record v { given = same i };
      doors = sym (append-nil c.args.doors.now.items) ∙ ap (λ (l : List (Worker g.row.D.Denot g.row.M.Denot)). c.args.doors.now.items ++ reverse (doors_of l)) (sym none);
      left = omega arith;
      many = c.requires.room.1;
      same_room = refl;
      room = c.requires.room.2;
      seated = subst (λ (l : List (Worker g.row.D.Denot g.row.M.Denot)). AreSeatedFrom c.args.table.now v 0 l) (sym none) tt;
    }

pub loop-preserved : goal.loop-preserved
loop-preserved g c =
    let kept = c.loop.invariant in let i = c.loop.counter in let v = view_of c.args.seat.now in
    let door = c.take_last-door.result in let own = c.split-own.result in let split = c.split-own.ensures in
    let ws = c.loop.workers.items in let push = c.push_reserved.ensures in let more = c.push_reserved.new.self.items in
    let given : v.given + i + 1 ≡ v.given + (i + 1) = omega arith in
    let last : doors_of more ≡ doors_of ws ++ door ∷ [] = ap (λ (l : List (Worker g.row.D.Denot g.row.M.Denot)). doors_of l) push.items ∙ map-append (λ (w : Worker g.row.D.Denot g.row.M.Denot). w.station.door) ws _ in
    let turned : reverse (doors_of more) ≡ door ∷ reverse (doors_of ws) = ap reverse last ∙ reverse_last (doors_of ws) door in
    let long : i ≡ 0 + length ws = (let a = c.loop.workers.ok in let b = kept.many in omega arith) in
    record {
      table = (split.table.0 ∙ kept.table.0, split.table.1 ∙ kept.table.1);
      counted = split.counted ∙ ap with_number_given kept.counted ∙ (λ j. record v { given = given j });
      doors = kept.doors ∙ ap (λ l. l ++ reverse (doors_of ws)) c.take_last-door.ensures.items ∙ append_assoc c.take_last-door.new.self.items (door ∷ []) (reverse (doors_of ws)) ∙ ap (λ l. c.take_last-door.new.self.items ++ l) (sym turned);
      left = (let a = c.take_last-door.ensures.len in let b = kept.left in omega arith);
      many = push.len ∙ ap (λ (n : ℕ). n + 1) kept.many;
      same_room = c.take_last-door.ensures.capacity ∙ kept.same_room;
      room = (let a = push.capacity in let b = kept.room in omega arith);
      seated = subst (λ (l : List (Worker g.row.D.Denot g.row.M.Denot)). AreSeatedFrom c.args.table.now v 0 l) (sym push.items)
          (seated_last c.args.table.now v 0 i ws _ long kept.seated (split.new_seat.0 ∙ kept.table.0 ∙ c.requires.table) (split.new_seat.1 ∙ ap new_view kept.counted));
    }
