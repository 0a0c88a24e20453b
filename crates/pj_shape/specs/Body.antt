-- A body of a rule among the steps of a derivation. It serves clauses inside the crate alone.
use Rattle.std.specs.Prelude.{◌≡◌, ◌≤◌, ℕ, ◌+◌, Bool, List, ◌++◌, length, reverse, drop, Some, slice_get}
use Rattle.pj_peg_grammar.specs.Derivation.{Forest, append, count, steps_from}
use Rattle.pj_peg_grammar.specs.declared.derivation.Step.{Step}
use Rattle.pj_shape.specs.declared.shape.Shape.{Shape}
use Rattle.pj_shape.specs.declared.made.Made.{Made}
use Rattle.pj_shape.specs.Flat.{raw}

-- at each place from one on, the number of the nodes of the derivations from there on
abbrev pub AreCounts : List Shape → (ℕ → Bool) → List Step → List ℕ → ℕ → Type 0
AreCounts shapes small steps counts from =
    (p : ℕ) (d : Forest) → from ≤ p → p ≤ length steps → steps_from p d ≡ drop p steps → slice_get counts p ≡ Some (length (raw shapes small d))

-- the steps from a place up to another are a body, and the nodes are its nodes and those after it, the last one first
pub record IsBody (shapes : List Shape) (small : ℕ → Bool) (steps : List Step) (counts : List ℕ) (first end : ℕ) (nodes : List Made) : Type 0 where
  pub below : Forest
  pub after : Forest
  pub here : steps_from first (append below after) ≡ drop first steps
  pub end_is : end ≡ first + count below
  pub counted : AreCounts shapes small steps counts first
  pub nodes_are : reverse nodes ≡ raw shapes small below ++ raw shapes small after
