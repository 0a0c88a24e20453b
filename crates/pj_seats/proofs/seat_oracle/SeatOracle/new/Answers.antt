use Rattle.std.proofs.Common.{◌≡◌, ◌∙◌, ap, List, map, rules, subst, sym, vec_len}
use Rattle.std.specs.declared.sync.Arc.{Arc}
use Rattle.std.specs.declared.alloc.Global.{Global}
use Rattle.pj_names.specs.ClassName.{Name, name_set}
use Rattle.pj_names.specs.declared.answer.Answer.{Answer}
use Rattle.pj_table.specs.Held.{AreHeldAnswers}
use Rattle.pj_table.specs.Seats.{view_of}
use Rattle.pj_seats.specs.Looks.{lies_at, made_at}
use Rattle.pj_seats.proofs.Asks.{all_none, once_none}
use Rattle.pj_seats.proofs.Looks.{finds_none, last_of_none}
use Rattle.pj_seats.proofs.seat_oracle.SeatOracle.new.Goals as goal

pub invariant_of-result : goal.invariant_of-result
invariant_of-result g c =
    let n = vec_len c.new.result in let none = c.new.ensures.len in let v = view_of c.args.station.now.seat in record {
      of_table = c.requires.table;
      same_world = c.requires.world;
      looks = ap (map made_at) (last_of_none n v none) ∙ sym (ap (map lies_at) c.new.ensures.items);
      once = once_none n c.new.result.items none c.new.ensures.items;
      held = subst (λ (l : List (Name × Arc Answer Global)). AreHeldAnswers (g.D.ClassFinder.holds c.args.station.now.door) (name_set c.new.result.items) l) (sym c.new-2.ensures.empty) tt;
      all_held = λ is. all_none c.new.result.items c.new-2.result c.new.ensures.items c.new-2.ensures.empty;
      counted = λ is. finds_none c.count_found-finds.result (g.D.ClassFinder.finds c.args.station.now.door) n v none (sym c.count_found-finds.ensures) (search rules);
    }
