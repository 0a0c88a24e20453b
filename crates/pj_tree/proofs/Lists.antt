-- Filters from an index on.
use Rattle.std.proofs.lemmas.List.Sums.{length-filter, count_by-le-length}
use Rattle.std.proofs.Common.{ℕ, zero, suc, ◌≡◌, ◌+◌, ◌<◌, ◌≤◌, Bool, true, false, List, [], ◌∷◌, length, drop, get_or, refl, arith}
use Rattle.std.specs.List.{filter}
use Rattle.std.proofs.lemmas.List.{drop_more}

-- what does not pass may be skipped
pub filter-skip : {X : Type 0} (p : X → Bool) (xs : List X) (d : X) (i j : ℕ) → i ≤ j → ((k : ℕ) → i ≤ k → k < j → k < length xs → p (get_or xs k d) ≡ false) → filter p (drop i xs) ≡ filter p (drop j xs)
filter-skip p [] d zero zero le none = refl
filter-skip p [] d zero (suc j) le none = refl
filter-skip p [] d (suc i) zero le none = refl
filter-skip p [] d (suc i) (suc j) le none = refl
filter-skip p (x ∷ xs) d zero zero le none = refl
filter-skip p (x ∷ xs) d zero (suc j) le none =
    let fails : p x ≡ false = none 0 (omega arith) (omega arith) (omega arith) in
    rw fails (filter-skip p xs d 0 j (omega arith) (λ k a b c. none (suc k) (omega arith) (omega arith) (omega arith)))
filter-skip p (x ∷ xs) d (suc i) zero le none = absurd (omega arith)
filter-skip p (x ∷ xs) d (suc i) (suc j) le none =
    filter-skip p xs d i j (omega arith) (λ k a b c. none (suc k) (omega arith) (omega arith) (omega arith))

-- what passes comes first
pub filter-first : {X : Type 0} (p : X → Bool) (xs : List X) (d : X) (i : ℕ) → i < length xs → p (get_or xs i d) ≡ true → filter p (drop i xs) ≡ get_or xs i d ∷ filter p (drop (i + 1) xs)
filter-first p xs d i h passes = rw (drop_more xs i d h) (rw passes refl)

pub filter-le : {X : Type 0} (p : X → Bool) (xs : List X) → length (filter p xs) ≤ length xs
filter-le p xs = omega (arith, length-filter p xs, count_by-le-length p xs)
