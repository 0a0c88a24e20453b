-- How deep elements may stand.
use Rattle.std.specs.Prelude.{ℕ}

-- the greatest depth of an element; the root has depth 1
abbrev pub greatest_depth : ℕ
greatest_depth = 64
