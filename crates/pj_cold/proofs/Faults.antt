-- Counts of faults of a door.
use Rattle.std.proofs.Common.{◌≡◌, ◌≢◌, ℕ, Result, Ok, Err, refl}
use Rattle.pj_outside.specs.Faults.{CountsFaults}
use Rattle.pj_outside.specs.declared.refused.Refused.{Refused}
use Rattle.pj_outside.specs.declared.refused.Refused.TheVariants as unopened

-- a call that did not fail leaves the count
pub unfailed_faults : {A : Type 0} (r : Result A Refused) (old new : ℕ) → r ≢ Err unopened.Failed → CountsFaults old new r → new ≡ old
unfailed_faults (Ok a) old new never counts = counts
unfailed_faults (Err unopened.Failed) old new never counts = absurd (never refl)
unfailed_faults (Err unopened.Memory) old new never counts = counts
