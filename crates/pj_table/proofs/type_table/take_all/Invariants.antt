use Rattle.std.proofs.Common.{◌≡◌, ℕ, ◌<◌, ◌≤◌, false, true, get_or, length, vec_capacity}
use lib.ListN.{take}
use Rattle.std.specs.Slots.{slots_filled, slots_len, slots_items}
use Rattle.pj_table.proofs.type_table.take_all.Given as goal

abbrev pub invariant-loop-i : goal.invariant-loop-i
invariant-loop-i l = ((k : ℕ) → l.i ≤ k → k < 64 → get_or (slots_filled l.closed.slots) k false ≡ true) × ((k : ℕ) → k < l.i → get_or (slots_filled l.closed.slots) k false ≡ false)
    × (slots_len l.closed.slots ≡ 64) × (slots_items l.closed.slots ≡ slots_items l.initial.closed.slots) × (length l.room.items ≡ l.i) × (64 ≤ vec_capacity l.room) × (l.room.items ≡ take l.i (slots_items l.initial.closed.slots))
