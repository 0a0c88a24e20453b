-- What a sink holds.
use Rattle.std.specs.Prelude.{◌≡◌, ◌≤◌, ℕ, List, ◌++◌, length, take, Option}
use Rattle.std.specs.Option.{option_map}

-- The sink got the piece, where it tells what it holds.
abbrev pub Gets : Option (List ℕ) → Option (List ℕ) → List ℕ → Type 0
Gets old new piece = new ≡ option_map (λ held. held ++ piece) old

-- It got a prefix of the piece.
abbrev pub GetsPrefix : Option (List ℕ) → Option (List ℕ) → List ℕ → Type 0
GetsPrefix old new piece = (n : ℕ) × (n ≤ length piece) × Gets old new (take n piece)
