-- Why the reader goes no further.
use Rattle.std.specs.Prelude.{◌≡◌, ℕ, suc, true, false, None}
use Rattle.pj_markup.specs.Depth.{greatest_depth}
use Rattle.pj_markup.specs.States.{State, is_deep, step, less_of, at_end, Stops}
use Rattle.pj_markup.specs.declared.reading.MarkupFault.{MarkupFault}
use Rattle.pj_markup.specs.declared.reading.MarkupFault.TheVariants.{At, Deep, Memory}

-- what the reader says in a state at a character, which stands at an offset
abbrev pub Faults : ℕ → State → ℕ → MarkupFault → Type 0
Faults at s c (At offset) = (offset ≡ at) × (is_deep greatest_depth s c ≡ false) × (step at s c ≡ None)
Faults at s c (Deep depth offset) = (depth ≡ suc greatest_depth) × (is_deep greatest_depth s c ≡ true) × (offset ≡ less_of s)
Faults at s c Memory = Unit {0}

-- what it says at the end
abbrev pub Lacks : ℕ → State → MarkupFault → Type 0
Lacks end s (At offset) = (offset ≡ end) × ((e : ℕ) → at_end e s ≡ Stops e)
Lacks end s (Deep depth offset) = ⊥
Lacks end s Memory = Unit {0}
