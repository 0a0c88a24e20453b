-- The choice among the candidates that are applicable in a phase.
use Rattle.std.specs.Prelude.{true, false, ◌==◌, Option, Some, None, Result, Ok, Err}
use Rattle.std.proofs.Common.{◌≡◌, ℕ, List, [], ◌∷◌, arith, length}
use Rattle.pj_names.specs.declared.oracle.AskFault.{AskFault}
use Rattle.pj_names.specs.Asking.{Return}
use Rattle.pj_names.proofs.AskingLaws.{asks-refused, asks-return, asks-then}
use Rattle.pj_names.specs.Told.{Asks, Told}
use Rattle.pj_overload.specs.declared.candidates.Candidate as held
use Rattle.pj_overload.specs.declared.choice.Choice.{Choice}
use Rattle.pj_overload.specs.declared.phase.Phase.{Phase}
use Rattle.pj_overload.specs.Choosing.{choice_among}
use Rattle.pj_overload.specs.Seen.{candidates_seen}
use Rattle.pj_overload.specs.Specific.{most_specific}

-- where there are none
pub among-none : {K : Type 0} (phase : Phase) (count : ℕ) (found : List held.Candidate) {t : Told K} {r : Result (Option Choice) AskFault} → (length found == 0) ≡ true → r ≡ Ok None
    → Asks (choice_among phase count (candidates_seen found)) t t r
among-none phase count [] none returned = asks-return returned
among-none phase count (first ∷ more) none returned = absurd (grind (arith, none))

-- where there are some
pub among-some : {K : Type 0} (phase : Phase) (count : ℕ) (found : List held.Candidate) {t u : Told K} {choice : Choice} {r : Result (Option Choice) AskFault} → (length found == 0) ≡ false
    → Asks (most_specific phase count (candidates_seen found)) t u (Ok choice) → r ≡ Ok (Some choice) → Asks (choice_among phase count (candidates_seen found)) t u r
among-some phase count [] some asked returned = absurd (grind (arith, some))
among-some phase count (first ∷ more) some asked returned = asks-then (λ choice. Return (Some choice)) asked (asks-return returned)

pub among-refused : {K : Type 0} (phase : Phase) (count : ℕ) (found : List held.Candidate) {t u : Told K} {e : AskFault} {r : Result (Option Choice) AskFault} → (length found == 0) ≡ false
    → Asks (most_specific phase count (candidates_seen found)) t u (Err e) → r ≡ Err e → Asks (choice_among phase count (candidates_seen found)) t u r
among-refused phase count [] some asked returned = absurd (grind (arith, some))
among-refused phase count (first ∷ more) some asked returned = asks-refused (λ choice. Return (Some choice)) asked returned
