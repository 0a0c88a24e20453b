-- Ranges of integers, one integer after the other.
use Rattle.std.proofs.Common.{◌≡◌, ℕ, ◌+◌, ◌++◌, List, [], ◌∷◌, map, ℤ, pos, negsuc, ◌+ℤ◌, ◌-ℤ◌, ◌<ℤ◌, refl, sym, ap, ◌∙◌, arith}
use Rattle.std.specs.List.{range_with_len}
use Rattle.std.proofs.lemmas.Int.{ints}
use Rattle.std.proofs.lemmas.List.{map-append}
use Rattle.std.proofs.lemmas.List.FromFn.{map-range_with_len_more}
use Rattle.pj_xvalue.specs.declared.item.Item.{Item}
use Rattle.pj_xvalue.specs.Items.{Integer, value_of_item, values_of}
use Rattle.pj_xsteps.specs.Arithmetic.{natural}

no_less : (z : ℤ) → z <ℤ pos 1 → natural z ≡ 0
no_less (pos n) h = omega (arith, ints)
no_less (negsuc n) h = refl

pub none-between : (from to : ℤ) → to <ℤ from → natural ((to -ℤ from) +ℤ pos 1) ≡ 0
none-between from to h = no_less ((to -ℤ from) +ℤ pos 1) (omega (arith, ints))

pub one-more : (from : ℤ) (items new : List Item) (place : ℕ) (x : Item) (z : ℤ) → values_of items ≡ map (λ k. Integer (from +ℤ pos k)) (range_with_len 0 place)
    → value_of_item x ≡ Integer z → z ≡ from +ℤ pos place → new ≡ items ++ x ∷ [] → values_of new ≡ map (λ k. Integer (from +ℤ pos k)) (range_with_len 0 (place + 1))
one-more from items new place x z so_far is e pushed =
    ap values_of pushed ∙ map-append value_of_item items (x ∷ []) ∙ ap (λ l. l ++ value_of_item x ∷ []) so_far
    ∙ ap (λ v. map (λ k. Integer (from +ℤ pos k)) (range_with_len 0 place) ++ v ∷ []) (is ∙ ap Integer e)
    ∙ sym (map-range_with_len_more (λ k. Integer (from +ℤ pos k)) 0 place place (omega arith))
