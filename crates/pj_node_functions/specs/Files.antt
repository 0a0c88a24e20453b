-- The name of a file.
use Rattle.std.specs.Prelude.{ℕ, ◌==◌, List}
use Rattle.std.specs.List.{after_last}

-- the last part of a path: what stands behind its last solidus, 47, and all of a path without one
abbrev pub file_name : List ℕ → List ℕ
file_name path = after_last (λ b. b == 47) path
