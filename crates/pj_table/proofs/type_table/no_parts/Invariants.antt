use Rattle.std.proofs.Common.{◌≡◌, ◌≤◌, ℕ, length, [], vec_capacity}
use mathlib.Core.Option.{some}
use lib.ListN.{get_elem?}
use Rattle.pj_table.specs.declared.part.Part.{Part}
use Rattle.pj_table.proofs.type_table.no_parts.Given as goal

abbrev pub invariant-loop : goal.invariant-loop
invariant-loop l = (length l.slots.items ≡ l.counter) × (64 ≤ vec_capacity l.slots) × ((p : ℕ) (x : Part) → get_elem? l.slots.items p ≡ some x → (x.entries.items ≡ []) × (x.looks.items ≡ []))
