use Rattle.std.proofs.Math.Logic.{∥∥₁_elim}
use Rattle.std.specs.Coded.{Coded-set, coded_ℕ}
use Rattle.pj_cold.proofs.steady_door.SteadyDoor.into_door.Goals as goal

pub returns-clause-steady : goal.returns-clause-steady
returns-clause-steady g c = λ known. ∥∥₁_elim c.args.self.steady (Coded-set coded_ℕ _ _) (λ steady. (steady known).1)
