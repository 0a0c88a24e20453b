-- The first pair of a name in two lists.
use Rattle.std.proofs.Common.{◌≡◌, ◌++◌, ℕ, List, [], ◌∷◌, ap, refl}
use Rattle.pj_names.specs.JavaType.{JavaType}
use Rattle.std.specs.Prelude.{nat_eq, cond}
use Rattle.std.specs.Cmp.Lexicographic.{pointwise}
use Rattle.pj_signatures.specs.Types.{bound_or}

pub bound_append : (other : JavaType) (own around : List (List ℕ × JavaType)) (name : List ℕ) → bound_or other (own ++ around) name ≡ bound_or (bound_or other around name) own name
bound_append other [] around name = refl
bound_append other (pair ∷ rest) around name = ap (λ (r : JavaType). cond (pointwise nat_eq pair.0 name) pair.1 r) (bound_append other rest around name)
