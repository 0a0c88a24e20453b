-- Classes in the order of their nodes. No public clause names this.
use Rattle.std.specs.Prelude.{ℕ, ◌+◌, ◌≤◌, List, [], ◌∷◌}
use Rattle.pj_symbols.specs.declared.class.Class.{Class}

-- the first class is of this node or one behind it, and each further one of a node behind that of the class before
abbrev pub IsRisingFrom : ℕ → List Class → Type 0
IsRisingFrom n [] = Unit {0}
IsRisingFrom n (class ∷ classes) = (n ≤ class.node.0) × IsRisingFrom (class.node.0 + 1) classes
