use Rattle.std.proofs.Common.{arith}
use Rattle.pj_table.proofs.Seats.{split_allowed}
use Rattle.pj_table.proofs.seat.TypeTable.split.Goals as goal

pub split_seat-new-requires : goal.split_seat-new-requires
split_seat-new-requires c = let s = c.args.self.now in let seat = c.args.seat.now in
    (c.requires.table, (let w = s.shaped.0.0 in omega arith), split_allowed s.table.shared.key seat.seat.id seat.seat.me.0 seat.rests.0 c.requires.opening.0 c.requires.opening.1)
