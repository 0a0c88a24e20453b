-- What a pool keeps. No public clause names it.
use Rattle.std.specs.Prelude.{ℕ, ◌+◌, ◌≤◌, List, [], ◌∷◌}
use Rattle.pj_parse.specs.declared.entry.Entry.{Entry}

-- the first entry is of this node or one behind it, and each further one of a node behind that of the entry before
abbrev pub IsRisingFrom : ℕ → List Entry → Type 0
IsRisingFrom n [] = Unit {0}
IsRisingFrom n (e ∷ es) = (n ≤ e.node.0) × IsRisingFrom (e.node.0 + 1) es
