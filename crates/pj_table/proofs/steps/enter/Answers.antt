use Rattle.std.proofs.Common.{arith}
use Rattle.pj_table.proofs.Allowed.{enter_allowed}
use Rattle.pj_table.proofs.steps.enter.Goals as goal

pub fetch_add-requires : goal.fetch_add-requires
fetch_add-requires c = let t = c.requires.table in let z = c.args.table.now.table_id in let p = c.requires.part in
    (t.0, (let w = t.1.0 in let b = t.2 in omega arith), enter_allowed c.args.table.now.key z.slots c.args.seat.now.id c.args.seat.now.me c.args.part p.0 p.1 t.2 c.requires.alive c.requires.seat.0 p.2 c.requires.seat.1 p.3 p.4 p.5)
