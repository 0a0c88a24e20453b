-- Tests that ask, over lists.
use Rattle.std.specs.Prelude.{Bool, true, false, List, [], ◌∷◌, if◌then◌else◌}
use Rattle.pj_names.specs.Asking.{Asking, Return, bind}

-- whether both hold: the second is looked at only where the first holds
abbrev pub and_then : Asking Bool → Asking Bool → Asking Bool
and_then first second = bind first (λ holds. if holds then second else Return false)

-- whether one of both holds: the second is looked at only where the first does not hold
abbrev pub or_then : Asking Bool → Asking Bool → Asking Bool
or_then first second = bind first (λ holds. if holds then Return true else second)

-- whether a test holds of each member, up to the first of which it does not hold
abbrev pub all_of : {A : Type 0} → (A → Asking Bool) → List A → Asking Bool
all_of test [] = Return true
all_of test (x ∷ xs) = and_then (test x) (all_of test xs)

-- the members of which a test holds, in their order
abbrev pub filtered : {A : Type 0} → (A → Asking Bool) → List A → Asking (List A)
filtered test [] = Return []
filtered test (x ∷ xs) = bind (test x) (λ holds. bind (filtered test xs) (λ rest. Return (if holds then x ∷ rest else rest)))
