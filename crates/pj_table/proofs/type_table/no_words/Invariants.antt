use Rattle.std.proofs.Common.{◌≡◌, ℕ, length, get_or}
use Rattle.pj_table.proofs.type_table.no_words.Given as goal

abbrev pub invariant-loop : goal.invariant-loop
invariant-loop l = (length l.words.items ≡ l.counter) × ((i : ℕ) → get_or l.words.items i 0 ≡ 0)
