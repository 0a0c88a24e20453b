-- The end of a cache, where everything is to be named.
use Rattle.std.proofs.Common.{◌≡◌, ℕ, ◌+◌, Bool, true, false, cond, List, length, Result, Ok, Err, nat_lt, refl}
use Rattle.pj_format.specs.declared.fault.Fault.{Fault}
use Rattle.pj_format.specs.Format.{first, fault}
use Rattle.pj_cache_format.specs.Judges.{when, fault_here}

pub when_true : {A : Type 0} (x : A) (bytes : List ℕ) (at : ℕ) → first (when true x) bytes at ≡ Ok (x, at)
unfolding when first
when_true x bytes at = refl

abbrev wrong : {A : Type 0} → ℕ → Result (A × ℕ) Fault
wrong at = Err (fault 1 at)

same : {X : Type 0} (b : Bool) (x : X) → cond b x x ≡ x
same true x = refl
same false x = refl

pub when_false : {A : Type 0} (x : A) (bytes : List ℕ) (at : ℕ) → first (when false x) bytes at ≡ Err (fault 1 at)
unfolding when fault_here first
when_false {A} x bytes at = same (nat_lt (length bytes) (at + 1)) (wrong {A = A} at)

pub ruleset ends = (when_true, when_false)
