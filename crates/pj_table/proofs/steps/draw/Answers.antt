use Rattle.std.proofs.Common.{ℕ, ◌+◌, ◌*◌, ap, ◌∙◌, arith, List}
use Rattle.pj_table.proofs.Allowed.{draw_allowed}
use Rattle.pj_table.specs.Plays.{waiting}
use Rattle.pj_table.specs.declared.part.Part.{Part}
use Rattle.pj_table.proofs.steps.draw.Goals as goal

pub fetch_add-requires : goal.fetch_add-requires
fetch_add-requires c = let t = c.requires.table in let z = c.args.table.now.table_id in (t.0, (let w = t.1.0 in let b = t.2 in omega arith), draw_allowed c.args.table.now.key z.slots c.args.seat.now.id c.args.seat.now.me c.args.part t.2 c.requires.alive c.requires.seat.0)

pub returns-clause-seat : goal.returns-clause-seat
returns-clause-seat c = let p = c.fetch_add.ensures.2 c.args.part (λ _. 1 + 3 * c.args.part) in (p.0, p.1, p.2 ∙ ap (λ (l : List (ℕ × Part)). (waiting c.args.part p.0 c.args.seat.now.me.0, l)) c.requires.seat.1)
