use Rattle.std.proofs.Common.{◌≡◌, ℕ, ◌+◌, List, ◌++◌, ◌∷◌, [], Bool, false, ap, ◌∙◌, sym, subst, arith, length, get_or, set, get_or-set_other, length-append, add-one}
use mathlib.Core.Logic.{dite}
use native.Mathlib.Decide.{ℕ_discrete}
use lib.ListN.{take, get_elem?}
use mathlib.Core.Option.{some}
use Rattle.std.specs.Slots.{slots_items, slots_filled}
use Rattle.pj_table.proofs.Books.{unset, take_at}
use Rattle.pj_table.specs.declared.part.Part.{Part}
use Rattle.pj_table.proofs.type_table.take_all.Goals as goal

pub loop-i-preserved : goal.loop-i-preserved
loop-i-preserved c = let inv = c.loop-i.invariant in let i = c.loop-i.i in let f = slots_filled c.loop-i.closed.slots in let o = c.take.ensures.others in let x = c.take.result in let room = c.push_reserved.ensures.items in (
  (λ k lo hi. ap (λ (l : List Bool). get_or l k false) o.1 ∙ get_or-set_other f i k false false (λ e. omega arith) ∙ inv.0 k (omega arith) hi),
  (λ k lt. ap (λ (l : List Bool). get_or l k false) o.1 ∙ dite (ℕ_discrete k i) (λ e. ap (λ (n : ℕ). get_or (set f i false) n false) e ∙ unset f i) (λ ne. get_or-set_other f i k false false ne ∙ inv.1 k (omega arith))),
  o.2 ∙ inv.2,
  o.0 ∙ inv.3,
  ap (λ (l : List Part). length l) room ∙ length-append c.loop-i.room.items (x ∷ []) ∙ ap (λ (n : ℕ). n + 1) inv.4,
  (let a = inv.5 in let b = c.push_reserved.ensures.capacity in omega arith),
  room ∙ ap (λ (l : List Part). l ++ x ∷ []) inv.6 ∙ sym (ap (λ (n : ℕ). take n (slots_items c.args.closed.slots)) (add-one i) ∙ take_at (slots_items c.args.closed.slots) i x (subst (λ (l : List Part). get_elem? l i ≡ some x) inv.3 c.take.ensures.value)),
)
