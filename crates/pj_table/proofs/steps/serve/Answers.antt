use Rattle.std.proofs.Common.{ℕ, ap, ◌∙◌, arith, List}
use Rattle.atomic_table.specs.Table.{rest}
use Rattle.pj_table.specs.Plays.{idle}
use Rattle.pj_table.specs.declared.part.Part.{Part}
use Rattle.pj_table.proofs.Allowed.{serve_allowed}
use Rattle.pj_table.proofs.steps.serve.Goals as goal

pub fetch_add-requires : goal.fetch_add-requires
fetch_add-requires c = let t = c.requires.table in let z = c.args.table.now.table_id in let p = c.requires.part in
    (t.0, (let w = t.1.0 in let b = t.2 in omega arith), serve_allowed c.args.table.now.key z.slots c.args.seat.now.id c.args.seat.now.me c.args.part p.0 t.2 c.requires.alive c.requires.seat.0 p.1 c.requires.seat.1 p.2 p.3)

pub returns-clause-seat : goal.returns-clause-seat
returns-clause-seat c = c.fetch_add.ensures.2 ∙ ap (λ (l : List (ℕ × Part)). (idle c.args.seat.now.me.0, rest l)) c.requires.part.1
