use Rattle.std.proofs.Common.{ℕ, subst}
use Rattle.std.specs.Arc.{arc_value}
use Rattle.pj_table.specs.Worlds.{IsAnswer, CountsFind}
use Rattle.pj_table.specs.Plays.{AddsLook, AddsNothing}
use Rattle.pj_table.specs.Placed.{Placed}
use Rattle.pj_table.proofs.Places.{asks_placed, refuses_placed, settled}
use Rattle.pj_table.proofs.seat.TypeTable.ask.Goals as goal

pub invariant_of-seat-clause-placed : goal.invariant_of-seat-clause-placed
invariant_of-seat-clause-placed g c = let v = c.args.seat.now.seat.me.0 in let w = c.look.new.seat.me.0 in let name = c.args.name.now in let finds = g.D.ClassFinder.finds in
    settled c.look.result
    (λ r. (IsAnswer v.world name (arc_value r)) × AddsLook v w c.part_of.result name (CountsFind (finds c.args.door.now) (finds c.look.new.door))) (λ _. AddsNothing v w) (Placed w) c.look.ensures.ok c.look.ensures.err
    (λ r t. asks_placed v w name (CountsFind (finds c.args.door.now) (finds c.look.new.door)) c.args.seat.now.placed (subst (λ (q : ℕ). AddsLook v w q name (CountsFind (finds c.args.door.now) (finds c.look.new.door))) c.part_of.ensures t.1))
    (λ _ t. refuses_placed v w c.args.seat.now.placed t)
