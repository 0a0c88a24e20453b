-- What two expressions of one tree have in common. An `Expr` keeps its parts in boxes and vectors, of whose places no contract speaks.
use Rattle.std.specs.Prelude.{◌≡◌}
use Rattle.pj_xexpressions.specs.Trees.{tree_of}
use Rattle.pj_xexpressions.specs.declared.expr.Expr.{Expr}
use Rattle.pj_xpatterns.specs.Written.{Variables, patterns_in}

-- Expressions of one tree have the same patterns.
abbrev pub PatternsByTree : Type 0
PatternsByTree = (variables : Variables) (a b : Expr) → tree_of a ≡ tree_of b → patterns_in variables a ≡ patterns_in variables b
