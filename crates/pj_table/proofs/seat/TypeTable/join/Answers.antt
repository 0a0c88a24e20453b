use Rattle.std.proofs.Common.{sym, arith}
use Rattle.std.proofs.Common.{subst}
use Rattle.atomic_table.specs.Table.{Me}
use Rattle.pj_table.specs.declared.part.Part.{Part}
use Rattle.pj_table.specs.declared.view.View.{View}
use Rattle.pj_table.specs.Placed.{Placed}
use Rattle.pj_table.proofs.Places.{unites_placed}
use Rattle.pj_table.proofs.Seats.{join_allowed}
use Rattle.pj_table.proofs.seat.TypeTable.join.Goals as goal

pub join_seat-requires : goal.join_seat-requires
join_seat-requires c = let s = c.args.self.now in let seat = c.args.seat.now in let other = c.args.other in
    (c.requires.table.0, c.requires.table.1, other.empty, (let w = s.shaped.0.0 in omega arith), join_allowed s.table.shared.key seat.seat.id seat.seat.me.0 other.seat.id other.seat.me.0 seat.rests.0 other.rests.0 seat.rests.1 other.rests.1)

pub invariant_of-seat-clause-placed : goal.invariant_of-seat-clause-placed
invariant_of-seat-clause-placed c = let v = c.args.seat.now.seat.me.0 in let w = c.args.other.seat.me.0 in subst (λ (m : Me Part View). Placed m.0) (sym c.join_seat.ensures.2) (unites_placed v w c.args.seat.now.placed c.args.other.placed)
