-- Lists with one member more.
use Rattle.std.proofs.Common.{◌≡◌, List, [], ◌∷◌, ◌++◌, refl, ap₂}

pub nothing_snoc : {A : Type 0} (ys : List A) (y : A) → [] ≡ ys ++ y ∷ [] → ⊥
nothing_snoc [] y e = absurd (cc)
nothing_snoc (b ∷ ys) y e = absurd (cc)

-- the members and the last one are the same
pub snoc_same : {A : Type 0} (xs ys : List A) (x y : A) → xs ++ x ∷ [] ≡ ys ++ y ∷ [] → (xs ≡ ys) × (x ≡ y)
snoc_same [] [] x y e = let last : x ≡ y = cc in (refl, last)
snoc_same {A} [] (b ∷ ys) x y e = let rest : ◌≡◌ {A = List A} [] (ys ++ y ∷ []) = cc in absurd (nothing_snoc ys y rest)
snoc_same {A} (a ∷ xs) [] x y e = let rest : ◌≡◌ {A = List A} [] (xs ++ x ∷ []) = cc in absurd (nothing_snoc xs x rest)
snoc_same (a ∷ xs) (b ∷ ys) x y e =
    let first : a ≡ b = cc in
    let rest : xs ++ x ∷ [] ≡ ys ++ y ∷ [] = cc in
    let both = snoc_same xs ys x y rest in (ap₂ (λ c cs. c ∷ cs) first both.0, both.1)
