-- Parts of an expression that are lists, with what their expressions denote.
use Rattle.std.specs.Prelude.{ℕ, List, map}
use Rattle.pj_xexpressions.specs.declared.expr.Expr.{Expr}
use Rattle.pj_xsteps.specs.Context.{Denotation}

-- the variables of a `for`, `let`, `some` or `every`
abbrev pub bindings_of : (Expr → Denotation) → List (List ℕ × Expr) → List (List ℕ × Denotation)
bindings_of denotes bindings = map (λ binding. (binding.0, denotes binding.1)) bindings

-- the further operands behind their operators
abbrev pub operated_by : {O : Type 0} → (Expr → Denotation) → List (O × Expr) → List (O × Denotation)
operated_by denotes operands = map (λ operand. (operand.0, denotes operand.1)) operands
