-- What is chosen is one of the candidates, also where an oracle tells nothing.
use Rattle.std.specs.Prelude.{ℕ, ◌<◌, List, [], ◌∷◌}
use Rattle.pj_overload.specs.declared.choice.Choice.{Choice}
use Rattle.pj_overload.specs.declared.choice.Choice.TheVariants as choices
use Rattle.pj_overload.specs.Candidates.{Candidate}

-- The numbers of candidates are all less than this.
abbrev pub AreBelow : ℕ → List Candidate → Type 0
AreBelow count [] = Unit {0}
AreBelow count (candidate ∷ rest) = (candidate.number < count) × AreBelow count rest

-- A choice of one is of a number that is less than this.
abbrev pub IsInside : ℕ → Choice → Type 0
IsInside count (choices.One number) = number < count
IsInside count choices.None = Unit {0}
IsInside count choices.Tie = Unit {0}

-- Some candidates are among others: what bounds the numbers of all bounds theirs.
pub record AreAmong (found all : List Candidate) : Type 0 where
  pub each : (count : ℕ) → AreBelow count all → AreBelow count found

-- a number is that of one of them
pub record IsNumberAmong (number : ℕ) (all : List Candidate) : Type 0 where
  pub each : (count : ℕ) → AreBelow count all → number < count

-- a choice of one is of one of them
pub record IsChoiceAmong (choice : Choice) (all : List Candidate) : Type 0 where
  pub each : (count : ℕ) → AreBelow count all → IsInside count choice
