-- Counts that rise.
use Rattle.std.proofs.Common.{ℕ, ◌≤◌, ◌-◌, ◌^◌, arith}
use Rattle.pj_outside.specs.Faults.{Rises, next_count}

-- the next count is a rise
pub rises_next : (n : ℕ) → n ≤ 2 ^ 64 - 1 → Rises n (next_count n)
rises_next n h = record { never_falls = omega arith; rose = omega arith }
