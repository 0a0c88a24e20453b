use Rattle.std.proofs.Common.{◌∙◌, sym, arith}
use Rattle.pj_table.proofs.Claims.{claim_allowed}
use Rattle.pj_table.proofs.seat.TypeTable.claim.Goals as goal

pub fetch_add-found-requires : goal.fetch_add-found-requires
fetch_add-found-requires c = let s = c.args.self.now in let z = s.table.shared.table_id in let seat = c.args.seat.now in
    (c.requires, (let w = s.shaped.0.0 in omega arith), claim_allowed s.table.shared.key z.slots seat.seat.id seat.seat.me seat.rests.0 (sym seat.marked ∙ c.if-seat.false))
