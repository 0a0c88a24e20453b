-- What the functions that read characters one by one find.
use Rattle.std.specs.Prelude.{ℕ, ◌≡◌, ◌+◌, ◌≤◌, ◌<◌, true, List, ◌++◌, length, nat_lt, slice_index}
use Rattle.std.specs.Char.{digit_value}
use Rattle.pj_lex.specs.Characters.{OctalDigit, ZeroToThree}
use Rattle.pj_literals.specs.Escapes.{stands_at, interpreted}

-- the octal digit d stands at this place
pub record IsOctalDigitAt (cs : List ℕ) (place d : ℕ) : Type 0 where
  pub stands : stands_at OctalDigit place cs ≡ true
  pub small : d < 8
  pub is : digit_value (slice_index cs place) ≡ d
  pub opens_three : stands_at ZeroToThree place cs ≡ nat_lt d 4

-- the front of a text stands for this, and what is behind it is interpreted as it stands
pub record Takes (cs value behind : List ℕ) : Type 0 where
  pub interprets : interpreted cs ≡ value ++ interpreted behind
  pub shorter : length behind + 1 ≤ length cs
