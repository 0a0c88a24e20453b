use Rattle.std.proofs.Common.{List, subst, sym, vec_len}
use Rattle.pj_table.specs.Seats.{view_of}
use Rattle.pj_table.specs.declared.view.Asked.{Asked}
use Rattle.pj_seats.specs.Looks.{CountsFinds}
use Rattle.pj_seats.proofs.Looks.{since_is_last}
use Rattle.pj_seats.proofs.seat_oracle.SeatOracle.is_whole.Goals as goal

pub returns : goal.returns
returns g c =
    let s = c.args.self.now in let n = vec_len s.names in let v = view_of s.station.now.seat in
    record { finds = λ is. subst (λ (l : List Asked). CountsFinds s.finds (g.D.ClassFinder.finds s.station.now.door) l) (sym (since_is_last n v)) (s.counted is) }
