-- How calls count the faults of the tree.
use Rattle.std.specs.Prelude.{◌≡◌, ℕ, Result, Ok, Err}
use Rattle.pj_outside.specs.Faults.{Rises}
use Rattle.pj_rules.specs.declared.fault.RuleRefused.{RuleRefused}
use Rattle.pj_rules.specs.declared.fault.RuleRefused.TheVariants.{Rule, TooManyRules, Failed, Memory}

-- the tree's count of faults rises exactly where the call failed
abbrev pub CountsFaults : {A : Type 0} → ℕ → ℕ → Result A RuleRefused → Type 0
CountsFaults old new (Ok value) = new ≡ old
CountsFaults old new (Err (Rule fault)) = new ≡ old
CountsFaults old new (Err (TooManyRules count)) = new ≡ old
CountsFaults old new (Err Failed) = Rises old new
CountsFaults old new (Err Memory) = new ≡ old
