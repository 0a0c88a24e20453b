use Rattle.std.proofs.Common.{List, subst, sym, vec_len}
use Rattle.pj_names.specs.ClassName.{Name}
use Rattle.pj_table.specs.Seats.{view_of}
use Rattle.pj_seats.specs.Looks.{AddsLooks, before_last}
use Rattle.pj_seats.proofs.Looks.{adds_last}
use Rattle.pj_seats.proofs.seat_oracle.SeatOracle.asked.Goals as goal

pub returns-clause-looks : goal.returns-clause-looks
returns-clause-looks g c =
    let s = c.args.self.now in let n = vec_len s.names in let v = view_of s.station.now.seat in
    subst (λ (l : List Name). AddsLooks (before_last n v) v l) (sym c.as_slice.ensures.value) (adds_last n v s.names.items s.looks)
