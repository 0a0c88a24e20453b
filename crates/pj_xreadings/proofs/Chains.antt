-- Operands with what stands behind them, where that is nothing and where it is something.
use Rattle.std.proofs.Common.{◌≡◌, ◌++◌, ◌==◌, true, false, List, [], ◌∷◌, map, length, refl}
use Rattle.std.proofs.lemmas.Bool.{eqb-true}
use Rattle.std.proofs.lemmas.List.{nil_from_length}
use Rattle.pj_xexpressions.specs.Trees.{Construct, node, operated}
use Rattle.pj_xreadings.specs.Operands.{Operand, chain, mixed, names_behind, names_of, operations, other, trees_of}
use Rattle.pj_xreadings.specs.Seen.{seen_behind, seen_reading}
use Rattle.pj_xreadings.specs.declared.operand.Reading.{Reading}

no_members : {A : Type 0} (x : A) (xs : List A) → (length (x ∷ xs) == 0) ≡ true → ⊥
no_members x xs h = let e : x ∷ xs ≡ [] = nil_from_length (x ∷ xs) (eqb-true _ _ h) in let z = e in cc

pub chain_alone : (construct : Construct) (first : Operand) (rest : List Reading) → (length rest == 0) ≡ true → first ≡ chain construct first (map seen_reading rest)
chain_alone construct first [] h = refl
chain_alone construct first (x ∷ xs) h = absurd (no_members x xs h)

pub chain_all : (construct : Construct) (first : Reading) (rest : List Reading) → (length rest == 0) ≡ false →
    other (node construct (trees_of (map seen_reading (first ∷ rest)))) (names_of (map seen_reading (first ∷ rest))) ≡ chain construct (seen_reading first) (map seen_reading rest)
chain_all construct first [] h = absurd (let z = h in cc)
chain_all construct first (x ∷ xs) h = refl

pub mixed_alone : {Operator : Type 0} (construct : List Operator → Construct) (first : Operand) (rest : List (Operator × Reading)) → (length rest == 0) ≡ true →
    first ≡ mixed construct first (map seen_behind rest)
mixed_alone construct first [] h = refl
mixed_alone construct first (x ∷ xs) h = absurd (no_members x xs h)

pub mixed_all : {Operator : Type 0} (construct : List Operator → Construct) (first : Operand) (rest : List (Operator × Reading)) → (length rest == 0) ≡ false →
    other (operated construct first.tree (operations (map seen_behind rest))) (first.names ++ names_behind (map seen_behind rest)) ≡ mixed construct first (map seen_behind rest)
mixed_all construct first [] h = absurd (let z = h in cc)
mixed_all construct first (x ∷ xs) h = refl
