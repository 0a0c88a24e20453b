-- Characters with their first places.
use Rattle.std.specs.Prelude.{◌≡◌, ℕ, Option, Some, None, position, nat_eq, if◌then◌else◌}
use Rattle.std.specs.BTreeMap.{BTreeMap, get}
use Rattle.std.specs.Ordering.{nat_cmp}
use Rattle.pj_xfuncs.specs.Strings.{Characters}

-- the place of a character in the map
abbrev pub place_in : BTreeMap ℕ ℕ → ℕ → Option ℕ
place_in places c = get nat_cmp places c

-- the map has each character's first place among some
abbrev pub AreFirstPlaces : BTreeMap ℕ ℕ → Characters → Type 0
AreFirstPlaces places characters = (c : ℕ) → place_in places c ≡ position (nat_eq c) characters

-- the place that is there, or else one for one character
abbrev pub or_here : Option ℕ → ℕ → ℕ → ℕ → Option ℕ
or_here (Some before) c key place = Some before
or_here None c key place = if nat_eq c key then Some place else None
