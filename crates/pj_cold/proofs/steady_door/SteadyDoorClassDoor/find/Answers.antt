use Rattle.std.proofs.Common.{◌∙◌}
use Rattle.std.proofs.Math.Logic.{∥∥₁_map}
use Rattle.pj_cold.proofs.Faults.{unfailed_faults}
use Rattle.pj_cold.proofs.steady_door.SteadyDoorClassDoor.find.Goals as goal

pub invariant_of-self : goal.invariant_of-self
invariant_of-self g c = record {
  steady = ∥∥₁_map c.args.self.now.steady
      (λ steady known. let later = c.find.ensures.steady (steady known).0 in (later.0, unfailed_faults c.find.result _ _ later.1 c.find.ensures.counts_faults ∙ (steady known).1));
}
