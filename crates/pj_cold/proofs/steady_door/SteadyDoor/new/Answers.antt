use Rattle.pj_cold.proofs.steady_door.SteadyDoor.new.Goals as goal

pub invariant_of-result : goal.invariant_of-result
invariant_of-result g c = record { steady = ∣ (λ known. (c.requires.steady known, c.requires.no_faults)) ∣₁ }
