-- What is said of files where they are told.
use Rattle.std.proofs.Common.{◌≡◌, Option, None, Some, IfSome, Result, Err, subst, sym}

pub all_told : {A : Type 0} (o : Option A) (P : A → Type 0) → ((x : A) → P x) → IfSome o P
all_told None P f = tt
all_told (Some x) P f = f x

pub told_so : {A : Type 0} (o : Option A) (P Q : A → Type 0) → ((x : A) → P x → Q x) → IfSome o P → IfSome o Q
told_so None P Q f h = tt
told_so (Some x) P Q f h = f x h

-- two things that are said of the same files
pub told_both : {A : Type 0} (o p : Option A) (P Q R : A → Type 0) → p ≡ o → ((x : A) → P x → Q x → R x) → IfSome o P → IfSome p Q → IfSome o R
told_both None p P Q R e f h k = tt
told_both {A} (Some x) p P Q R e f h k = f x h (subst (λ (w : Option A). IfSome w Q) e k)

-- ---- a refusal, as a function gives it on

module _ {A E : Type 0} where
  -- what holds of the end with this error
  pub result_on : (P : Result A E → Type 0) (r : Result A E) (e x : E) → r ≡ Err e → e ≡ x → P (Err x) → P r
  result_on P r e x is same h = subst P (sym is) (subst (λ (y : E). P (Err y)) (sym same) h)
