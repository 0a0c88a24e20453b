-- What is said of files where they are told.
use Rattle.std.proofs.Common.{◌≡◌, Option, None, Some, IfSome, refl, subst}

pub told_at : {A : Type 0} (o : Option A) (P : A → Type 0) → IfSome o P → (x : A) → o ≡ Some x → P x
told_at o P h x e = subst (λ (w : Option _). IfSome w P) e h

pub all_told : {A : Type 0} (o : Option A) (P : A → Type 0) → ((x : A) → o ≡ Some x → P x) → IfSome o P
all_told None P f = tt
all_told (Some x) P f = f x refl
