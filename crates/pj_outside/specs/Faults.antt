-- Counts of faults.
use Rattle.std.specs.Prelude.{◌≡◌, ◌≤◌, ◌+◌, ◌-◌, ◌^◌, ℕ, min, Result, Ok, Err}
use Rattle.pj_outside.specs.declared.refused.Refused.{Refused}
use Rattle.pj_outside.specs.declared.refused.Refused.TheVariants as refused
use Rattle.pj_outside.specs.declared.refused.Failed.{Failed}

-- The count rose, or stands at the greatest number that a count can have.
pub record Rises (old new : ℕ) : Type 0 where
  pub never_falls : old ≤ new
  pub rose : min (old + 1) (2 ^ 64 - 1) ≤ new

-- The count rises exactly with a failed call. Want of memory is no fault.
abbrev pub CountsFaults : {A : Type 0} → ℕ → ℕ → Result A Refused → Type 0
CountsFaults old new (Ok a) = new ≡ old
CountsFaults old new (Err refused.Failed) = Rises old new
CountsFaults old new (Err refused.Memory) = new ≡ old

-- the same of a call that can only fail
abbrev pub CountsFailed : {A : Type 0} → ℕ → ℕ → Result A Failed → Type 0
CountsFailed old new (Ok a) = new ≡ old
CountsFailed old new (Err e) = Rises old new

-- one more, or the greatest number that a count can have
abbrev pub next_count : ℕ → ℕ
next_count n = min (n + 1) (2 ^ 64 - 1)
