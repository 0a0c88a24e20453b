-- Laws of sizes.
use Rattle.std.specs.Prelude.{◌≡◌, ◌≤◌, ◌^◌, ℕ, List, length}
use Rattle.pj_xexpressions.specs.Trees.{Tree, tree_of}
use Rattle.pj_xexpressions.specs.declared.expr.Expr.{Expr}
use Rattle.pj_xparse.specs.Spells.{Spells}

-- how many characters an expression may have
abbrev pub greatest_length : ℕ
greatest_length = 2 ^ 32

-- What a text of no more characters spells is the tree of an `Expr`.
abbrev pub SomeExpression : Type 0
SomeExpression = (variables : List (List ℕ)) (text : List ℕ) (tree : Tree) → length text ≤ greatest_length → Spells variables text tree → (expr : Expr) × (tree_of expr ≡ tree)
