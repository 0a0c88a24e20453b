-- Lists read through a function.
use Rattle.std.proofs.Common.{◌≡◌, ℕ, ◌<◌, List, length, get_or, ap, refl, sym, ◌∙◌}
use Rattle.std.specs.Prelude.{map, Some, option_map, slice_get}
use Rattle.std.proofs.lemmas.Option.{slice_get_read, slice_get-map}

-- where two lists read alike, so do their members at one place
pub alike_at : {A B : Type 0} (f : A → B) (xs ys : List A) (i : ℕ) (x y : A) → map f xs ≡ map f ys → i < length xs → i < length ys → x ≡ get_or xs i x → y ≡ get_or ys i y → f x ≡ f y
alike_at f xs ys i x y same below below' at at' =
    let left = slice_get-map f xs i ∙ ap (option_map f) (slice_get_read xs (length xs) i x refl below at) in
    let right = slice_get-map f ys i ∙ ap (option_map f) (slice_get_read ys (length ys) i y refl below' at') in
    let both : Some (f x) ≡ Some (f y) = sym left ∙ ap (λ zs. slice_get zs i) same ∙ right in
    cc
