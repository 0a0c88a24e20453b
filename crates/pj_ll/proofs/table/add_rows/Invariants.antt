use Rattle.std.proofs.Common.{◌≡◌, ℕ, ◌≤◌, length}
use Rattle.pj_ll.specs.Table.{row_at}
use Rattle.pj_ll.proofs.table.add_rows.Given as goal

abbrev pub invariant-loop : goal.invariant-loop
invariant-loop l = record { count : l.counter ≤ length l.rows.items; same : (n : ℕ) → row_at l.rows.items n ≡ row_at l.initial.rows.items n }
