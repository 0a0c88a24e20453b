use Rattle.std.proofs.Common.{◌≡◌, ℕ, List, ap, ◌∙◌, arith, get_or, length}
use Rattle.atomic_table.specs.Table.{Me}
use Rattle.pj_table.proofs.Ends.{starts}
use Rattle.pj_table.proofs.Worlds.{told_allowed}
use Rattle.pj_table.specs.declared.view.View.{View}
use Rattle.pj_table.specs.declared.part.Part.{Part}
use Rattle.pj_table.proofs.seat.TypeTable.open_named.Goals as goal

pub new-requires : goal.new-requires
new-requires g c = let w = c.in_ok-words.ensures in let p = c.in_ok-slots.ensures in let d = c.deref.ensures.value in
    starts c.args.files c.deref.result.now c.in_ok-slots.slots.items (ap (λ (l : List ℕ). length l) d ∙ w.0 ∙ (let e = p.0 in omega arith)) (λ i. ap (λ (l : List ℕ). get_or l i 0) d ∙ w.1 i) p.1 c.ranges.files.fits

pub load-requires : goal.load-requires
load-requires g c = let t = c.in-Ok.ensures.ok in let z = c.in-Ok.made.0.shared.table_id in let me = c.in-Ok.made.1.me in let is = t.4 in let words : z.words ≡ 193 = t.0 ∙ ap (λ (l : List ℕ). length l) c.deref.ensures.value ∙ c.in_ok-words.ensures.0 in
    (t.2, omega arith, told_allowed c.in-Ok.made.0.shared.key z.slots c.in-Ok.made.1.id me g.W.Naming.world (ap (λ (m : Me Part View). m.0.live) is) (ap (λ (m : Me Part View). m.0.own.number) is) (ap (λ (m : Me Part View). m.0.own.asked) is) (ap (λ (m : Me Part View). m.0.given) is))
