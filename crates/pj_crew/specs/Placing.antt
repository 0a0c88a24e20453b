-- What came of files, by their numbers.
use Rattle.std.specs.Prelude.{◌≡◌, ℕ, ◌<◌, List, [], ◌∷◌, map, length, Option, Some, slice_index_or, slice_set}
use Rattle.std.specs.List.{AllByRecursion, Contains, flat_map}
use Rattle.pj_seats.specs.declared.worker.Share.{Share}
use Rattle.pj_table.specs.Rule.{once_below, times}

-- what came of all files of shares, each with its number
abbrev pub all_results : {M : Type 0} → List (Share M) → List (ℕ × M)
all_results shares = flat_map (λ share. share.results.items) shares

-- Each number below a bound stands in them once, and no other number does.
abbrev pub AreOnceEach : {M : Type 0} → ℕ → List (ℕ × M) → Type 0
AreOnceEach files results = (n : ℕ) → times n (map (λ result. result.0) results) ≡ once_below n files

-- Each number is below the bound.
abbrev pub AreBelow : {M : Type 0} → ℕ → List (ℕ × M) → Type 0
AreBelow files results = AllByRecursion (λ result. result.0 < files) results

-- places, with what came of files put at their numbers
abbrev pub put_all : {M : Type 0} → List (Option M) → List (ℕ × M) → List (Option M)
put_all places [] = places
put_all places (result ∷ results) = put_all (slice_set places result.0 (Some result.1)) results

-- For each number below the bound there is what came of its file.
pub record ArePlaced {M : Type 0} (files : ℕ) (results : List (ℕ × M)) (made : List M) : Type 0 where
  pub many : length made ≡ files
  pub each : (n : ℕ) (d : M) → n < files → Contains results (n, slice_index_or made n d)
