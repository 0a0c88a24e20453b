-- What is interpreted behind an escape.
use Rattle.std.proofs.Common.{◌≡◌, ℕ, zero, suc, List, [], ◌∷◌, drop, refl}
use Rattle.pj_literals.specs.Escapes.{interpreted_behind, interpreted}

pub interpreted_drop : (n : ℕ) (cs : List ℕ) → interpreted_behind n cs ≡ interpreted (drop n cs)
interpreted_drop zero cs = refl
interpreted_drop (suc n) [] = refl
interpreted_drop (suc n) (c ∷ cs) = interpreted_drop n cs
