-- Parts that are not read yet.
use Rattle.std.proofs.Common.{◌≡◌, ◌∙◌, List, [], ◌∷◌, ◌++◌, length, Option, Some, None, refl, sym}
use Rattle.std.specs.Option.{option_to_list}
use Rattle.std.specs.Prelude.{MatchOption}
use Rattle.std.specs.Vec.Iter.{into_iter_items, into_iter_len, into_iter_steps}
use Rattle.std.specs.declared.vec.IntoIter.{IntoIter}

empty : {A : Type 0} (xs : List A) → length xs ≡ 0 → xs ≡ []
empty [] e = refl
empty (x ∷ xs) e = absurd (cc)

pub rest_taken : {X Z : Type 0} (old new : IntoIter X Z) (seen : List X) (r : Option X) → into_iter_items old ≡ seen → into_iter_len old ≡ length (into_iter_items old) →
    into_iter_items old ≡ option_to_list r ++ into_iter_items new → into_iter_steps old r new → MatchOption r ((seen ≡ []) × (into_iter_items new ≡ [])) (λ x. seen ≡ x ∷ into_iter_items new)
rest_taken old new seen None v n i steps =
    let none : into_iter_items old ≡ [] = empty (into_iter_items old) (sym n ∙ steps.0) in (sym v ∙ none, sym i ∙ none)
rest_taken old new seen (Some x) v n i steps = sym v ∙ steps.0
