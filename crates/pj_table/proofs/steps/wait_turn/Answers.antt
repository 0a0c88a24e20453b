use Rattle.std.proofs.Common.{rules, ◌+◌, ◌*◌, ◌%◌, ◌^◌, ap, ◌∙◌, sym, arith, subst}
use Rattle.atomic_table.specs.Table.{Me}
use Rattle.pj_table.specs.Plays.{Turns}
use Rattle.pj_table.specs.declared.part.Part.{Part}
use Rattle.pj_table.specs.declared.view.View.{View}
use Rattle.pj_table.proofs.Allowed.{turn_allowed}
use Rattle.pj_table.proofs.steps.wait_turn.Goals as goal

pub load-requires : goal.load-requires
load-requires g c = let t = c.requires.table in let z = c.args.table.now.table_id in let l = c.loop.invariant in (
  l.2 ∙ t.0,
  (let w = t.1.0 in let b = t.2 in omega arith),
  turn_allowed c.args.table.now.key z.slots c.loop.seat.id c.loop.seat.me c.args.part t.2 (ap (λ (m : Me Part View). m.0.live) l.4 ∙ c.requires.alive) (ap (λ (m : Me Part View). m.0.at) l.4 ∙ c.requires.seat.0) (ap (λ (m : Me Part View). m.0.phase) l.4 ∙ c.requires.seat.1),
)

pub returns-then-load-ticket-clause-seat : goal.returns-then-load-ticket-clause-seat
returns-then-load-ticket-clause-seat g c = let l = c.loop.invariant in let told = (c.load.ensures.2 c.args.part (λ _. 2 + 3 * c.args.part)).0 in
    subst (λ (m : Me Part View). Turns c.args.part m c.load.new.seat.me) l.4 (told (c.if-load-ticket.true ∙ c.requires.seat.2 ∙ ap (λ (m : Me Part View). m.0.ticket % 2 ^ 64) (sym l.4)))

pub loop-preserved : goal.loop-preserved
loop-preserved g c = let l = c.loop.invariant in let told = (c.load.ensures.2 c.args.part (λ _. 2 + 3 * c.args.part)).1 in
    (search rules, search rules, c.load.ensures.0 ∙ l.2, c.load.ensures.1 ∙ l.3, told (λ e. c.if-load-ticket.false (e ∙ ap (λ (m : Me Part View). m.0.ticket % 2 ^ 64) l.4 ∙ sym c.requires.seat.2)) ∙ l.4)
