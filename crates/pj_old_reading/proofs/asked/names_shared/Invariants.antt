use Rattle.std.proofs.Common.{◌≡◌, ◌++◌, drop, map}
use Rattle.pj_old_reading.proofs.asked.names_shared.Given as goal

abbrev pub invariant-loop-pair : goal.invariant-loop-pair
invariant-loop-pair l = record { put : l.names.items ++ map (λ a. a.0) (drop l.pair-index l.answers) ≡ map (λ a. a.0) l.answers }
