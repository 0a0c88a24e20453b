use Rattle.std.proofs.Common.{◌≡◌, ℕ, ◌+◌, ◌∷◌, [], List, ap, ◌∙◌, arith, subst, length, length-append, ⊎_elim}
use Rattle.pj_table.proofs.Books.{at_snoc_is}
use Rattle.pj_table.specs.declared.part.Part.{Part}
use mathlib.Core.Option.{some}
use lib.ListN.{get_elem?}
use Rattle.pj_table.proofs.type_table.no_parts.Goals as goal

pub loop-preserved : goal.loop-preserved
loop-preserved c = let inv = c.loop.invariant in let y : Part = c.new.result in let push = c.push_reserved.ensures.items in (
  ap (λ (l : List Part). length l) push ∙ length-append c.loop.slots.items (y ∷ []) ∙ ap (λ (n : ℕ). n + 1) inv.0,
  (let a = inv.1 in let b = c.push_reserved.ensures.capacity in omega arith),
  (λ p x at. ⊎_elim (λ t. inv.2 p x t) (λ t. subst (λ (z : Part). (z.entries.items ≡ []) × (z.looks.items ≡ [])) t.1 c.new.ensures) (at_snoc_is c.loop.slots.items y x p (subst (λ (l : List Part). get_elem? l p ≡ some x) push at))),
)
