-- What a keeper holds: a finite map from names to bytes, as pairs of which the first of a name counts.
use Rattle.std.specs.Prelude.{◌≡◌, ◌⊎◌, ◌+◌, ◌∷◌, [], ℕ, if◌then◌else◌, Option}
use Rattle.std.specs.Option.{option_map}
use Rattle.pj_outside.specs.Files.{Bytes, Files, is_same}

-- the same map but for one name, which has these bytes
abbrev pub replaced : Bytes → Bytes → Files → Files
replaced name bytes [] = (name, bytes) ∷ []
replaced name bytes (pair ∷ pairs) = if is_same pair.0 name then (name, bytes) ∷ pairs else pair ∷ replaced name bytes pairs

-- The keeper replaced the name's bytes, where it tells what it holds.
abbrev pub Replaces : Option Files → Option Files → Bytes → Bytes → Type 0
Replaces old new name bytes = new ≡ option_map (replaced name bytes) old

-- It did so, or holds what it held.
abbrev pub MayReplace : Option Files → Option Files → Bytes → Bytes → Type 0
MayReplace old new name bytes = (new ≡ old) ⊎ Replaces old new name bytes

-- the place of the first pair of a name, or the number of pairs
abbrev pub place_of : Files → Bytes → ℕ
place_of [] name = 0
place_of (pair ∷ pairs) name = if is_same pair.0 name then 0 else place_of pairs name + 1
