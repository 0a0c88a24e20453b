use Rattle.std.proofs.Common.{◌≡◌, ◌∷◌, ap, ◌∙◌, sym, arith, subst}
use Rattle.atomic_table.specs.Table.{Me}
use Rattle.pj_table.specs.Book.{IsSound}
use Rattle.std.specs.Arc.{arc_value}
use Rattle.pj_table.specs.Worlds.{IsAnswer}
use Rattle.pj_table.specs.Plays.{with_asked}
use Rattle.pj_table.specs.declared.view.View.{View}
use Rattle.pj_table.specs.declared.part.Part.{Part}
use Rattle.pj_table.proofs.steps.look.Goals as goal

abbrev M : Type 0
M = Me Part View

pub visit-requires-clause-part : goal.visit-requires-clause-part
visit-requires-clause-part g c = let drawn = c.draw-ticket.ensures.seat in let turn = c.wait_turn.ensures.seat in (
  (turn.0, ap (λ (m : M). m.1) turn.1 ∙ ap (λ (m : M). (c.args.part, turn.0) ∷ m.1) drawn.2, sym (ap (λ (m : M). m.0.entries) turn.1), sym (ap (λ (m : M). m.0.looks) turn.1)),
  subst (λ (m : M). IsSound m.0.world m.0.entries m.0.looks) (sym turn.1) turn.2,
)

pub serve-requires-clause-seat : goal.serve-requires-clause-seat
serve-requires-clause-seat g c = let drawn = c.draw-ticket.ensures.seat in let turn = c.wait_turn.ensures.seat in let grew = c.in-Ok.ensures.ok.1 in
    let entered = c.enter.ensures.seat grew.0 grew.1 grew.2 grew.3 grew.6 in let phase : c.enter.new.seat.me.0.phase ≡ 3 = ap (λ (m : M). m.0.phase) entered in
    (ap (λ (m : M). m.0.at) entered ∙ ap (λ (v : View). v.at) c.visit.ensures.table.2 ∙ ap (λ (m : M). m.0.at) turn.1 ∙ ap (λ (m : M). m.0.at) drawn.2, omega arith)

pub serve-requires-clause-part : goal.serve-requires-clause-part
serve-requires-clause-part g c = let grew = c.in-Ok.ensures.ok.1 in let entered = c.enter.ensures.seat grew.0 grew.1 grew.2 grew.3 grew.6 in
    (grew.0, ap (λ (m : M). m.1) entered ∙ grew.2, sym (ap (λ (m : M). m.0.entries) entered), sym (ap (λ (m : M). m.0.looks) entered))

pub returns-in-Ok-clause-ok : goal.returns-in-Ok-clause-ok
returns-in-Ok-clause-ok g c = let drawn = c.draw-ticket.ensures.seat in let turn = c.wait_turn.ensures.seat in let grew = c.in-Ok.ensures.ok.1 in let entered = c.enter.ensures.seat grew.0 grew.1 grew.2 grew.3 grew.6 in
    let idle = c.serve.ensures.seat in let visit = c.visit.ensures.table.2 in (
      subst (λ (m : M). IsAnswer m.0.world c.args.name.now (arc_value c.in-Ok.answer)) drawn.2 (subst (λ (m : M). IsAnswer m.0.world c.args.name.now (arc_value c.in-Ok.answer)) turn.1 c.in-Ok.ensures.ok.0),
      (
        grew.1,
        grew.3,
        grew.4,
        grew.5,
        ap (λ (m : M). m.0.own) idle ∙ ap (λ (m : M). m.0.own) entered ∙ ap (λ (v : View). with_asked grew.1 v.own) visit ∙ ap (λ (m : M). with_asked grew.1 m.0.own) turn.1 ∙ ap (λ (m : M). with_asked grew.1 m.0.own) drawn.2,
        (
          ap (λ (m : M). m.0.live) idle ∙ ap (λ (m : M). m.0.live) entered ∙ ap (λ (v : View). v.live) visit ∙ ap (λ (m : M). m.0.live) turn.1 ∙ ap (λ (m : M). m.0.live) drawn.2,
          ap (λ (m : M). m.0.world) idle ∙ ap (λ (m : M). m.0.world) entered ∙ ap (λ (v : View). v.world) visit ∙ ap (λ (m : M). m.0.world) turn.1 ∙ ap (λ (m : M). m.0.world) drawn.2,
          ap (λ (m : M). m.0.files) idle ∙ ap (λ (m : M). m.0.files) entered ∙ ap (λ (v : View). v.files) visit ∙ ap (λ (m : M). m.0.files) turn.1 ∙ ap (λ (m : M). m.0.files) drawn.2,
          ap (λ (m : M). m.0.given) idle ∙ ap (λ (m : M). m.0.given) entered ∙ ap (λ (v : View). v.given) visit ∙ ap (λ (m : M). m.0.given) turn.1 ∙ ap (λ (m : M). m.0.given) drawn.2,
          ap (λ (m : M). m.0.joined) idle ∙ ap (λ (m : M). m.0.joined) entered ∙ ap (λ (v : View). v.joined) visit ∙ ap (λ (m : M). m.0.joined) turn.1 ∙ ap (λ (m : M). m.0.joined) drawn.2,
        ),
      ),
    )

pub serve-requires-clause-alive : goal.serve-requires-clause-alive
serve-requires-clause-alive g c = let drawn = c.draw-ticket.ensures.seat in let turn = c.wait_turn.ensures.seat in let grew = c.in-Ok.ensures.ok.1 in
    let entered = c.enter.ensures.seat grew.0 grew.1 grew.2 grew.3 grew.6 in
    ap (λ (m : M). m.0.live) entered ∙ ap (λ (v : View). v.live) c.visit.ensures.table.2 ∙ ap (λ (m : M). m.0.live) turn.1 ∙ ap (λ (m : M). m.0.live) drawn.2 ∙ c.requires.alive
