-- Prefixes of lists.
use Rattle.std.proofs.Common.{◌≡◌, ℕ, List, [], ◌∷◌, ◌++◌, true, false, ◌&&◌, nat_eq, length, drop, take, refl, ◌∙◌, ap}
use Rattle.std.specs.List.{starts_with}
use Rattle.std.specs.Cmp.Lexicographic.{pointwise}

-- a list begins with two lists where it begins with the first and the rest with the second
pub starts_with_append : (xs ys zs : List ℕ) → starts_with nat_eq xs (ys ++ zs) ≡ (starts_with nat_eq xs ys && starts_with nat_eq (drop (length ys) xs) zs)
starts_with_append xs [] zs = refl
starts_with_append [] (y ∷ ys) zs = refl
starts_with_append (x ∷ xs) (y ∷ ys) zs =
    elim (nat_eq y x) as (λ t. (t && pointwise nat_eq (ys ++ zs) (take (length (ys ++ zs)) xs)) ≡ ((t && pointwise nat_eq ys (take (length ys) xs)) && starts_with nat_eq (drop (length ys) xs) zs))
    [ true ↦ starts_with_append xs ys zs | false ↦ refl ]

-- where the list begins with the first, the rest decides
pub starts_with_rest : (xs ys zs : List ℕ) → starts_with nat_eq xs ys ≡ true → starts_with nat_eq xs (ys ++ zs) ≡ starts_with nat_eq (drop (length ys) xs) zs
starts_with_rest xs ys zs e = starts_with_append xs ys zs ∙ ap (λ t. t && starts_with nat_eq (drop (length ys) xs) zs) e

-- where it does not, it does not begin with both
pub starts_with_neither : (xs ys zs : List ℕ) → starts_with nat_eq xs ys ≡ false → starts_with nat_eq xs (ys ++ zs) ≡ false
starts_with_neither xs ys zs e = starts_with_append xs ys zs ∙ ap (λ t. t && starts_with nat_eq (drop (length ys) xs) zs) e
