-- How deep the text of an expression nests that has no parentheses but those that the grammar asks for. A `/` alone is in parentheses before a
-- word or a `*`, which would begin a step behind it (XPath 2.0, A.1.2, leading-lone-slash); so the nesting depends on whether one of these
-- stands behind the text. The parentheses of a kind test nest as others do; `..` and `//` have none (XPath 2.0, 3.2.4).
use Rattle.std.specs.Prelude.{ℕ, ◌+◌, Bool, true, false, List, [], ◌∷◌, length, max, nat_eq, nat_lt, if◌then◌else◌}
use Rattle.pj_xexpressions.specs.declared.axis.Axis.{Axis}
use Rattle.pj_xexpressions.specs.declared.axis.Axis.TheVariants as axis
use Rattle.pj_xexpressions.specs.declared.expr.NodeTest.{NodeTest}
use Rattle.pj_xexpressions.specs.declared.expr.NodeTest.TheVariants as test
use Rattle.pj_xexpressions.specs.Trees as tree
use Rattle.pj_xexpressions.specs.Trees.{Tree, Trees, Construct, Node, NoMore, More}
use Rattle.pj_xreadings.specs.Shapes.{level_by}

-- what the surroundings see: the level; whether it is the step that `//` stands for; and the nesting where a word or a `*` stands behind, and where not
pub record Nested : Type 0 where
  pub level : ℕ
  pub is_descendants : Bool
  pub nesting : Bool → ℕ

-- an operand, in parentheses where its level is below the least that may stand there without
abbrev pub operand_before : Bool → ℕ → Nested → ℕ
operand_before behind least part = if nat_lt part.level least then 1 + part.nesting false else part.nesting behind

-- the operands of a chain, each of which has an operator behind it but the last; `mark` says that the operators are words or `*`
abbrev pub chain_before : Bool → Bool → ℕ → List Nested → ℕ
chain_before behind mark least [] = 0
chain_before behind mark least (last ∷ []) = operand_before behind least last
chain_before behind mark least (part ∷ next ∷ more) = max (operand_before mark least part) (chain_before behind mark least (next ∷ more))

-- the expressions of variables behind `in` or `:=`, and the body behind `return` or `satisfies`: the last expression of a variable has a
-- word behind it, the others have a comma; likewise the expression behind `then` has `else` behind it
abbrev pub clauses_before : Bool → List Nested → ℕ
clauses_before behind [] = 0
clauses_before behind (body ∷ []) = 1 + operand_before behind 1 body
clauses_before behind (value ∷ body ∷ []) = max (1 + operand_before true 1 value) (1 + operand_before behind 1 body)
clauses_before behind (value ∷ next ∷ body ∷ more) = max (1 + operand_before false 1 value) (clauses_before behind (next ∷ body ∷ more))

-- the test of an `if`, in parentheses, and the expressions behind `then` and `else`
abbrev pub choice_before : Bool → List Nested → ℕ
choice_before behind [] = 0
choice_before behind (test ∷ branches) = max (1 + test.nesting false) (clauses_before behind branches)

-- predicates, in brackets
abbrev pub enclosed : List Nested → ℕ
enclosed [] = 0
enclosed (predicate ∷ more) = max (1 + predicate.nesting false) (enclosed more)

-- a primary expression and its predicates
abbrev pub filter_inside : List Nested → ℕ
filter_inside [] = 0
filter_inside (primary ∷ predicates) = max (operand_before false 16 primary) (enclosed predicates)

abbrev mutual
  -- a step, and those behind it
  pub step_before : Bool → Nested → List Nested → ℕ
  step_before behind step [] = operand_before behind 15 step
  step_before behind step (next ∷ more) = max (operand_before false 15 step) (further_before behind next more)

  -- a step behind a `/`, and those behind it; `//` stands for the step `descendant-or-self::node()` before another one
  pub further_before : Bool → Nested → List Nested → ℕ
  further_before behind step [] = operand_before behind 15 step
  further_before behind step (next ∷ more) =
      if step.is_descendants then step_before behind next more else max (operand_before false 15 step) (further_before behind next more)

-- the steps of a path
abbrev pub steps_before : Bool → List Nested → ℕ
steps_before behind [] = 0
steps_before behind (only ∷ []) = operand_before false 14 only
steps_before behind (first ∷ next ∷ more) = max (operand_before false 14 first) (further_before behind next more)

-- the parentheses of a kind test
abbrev pub test_nesting : NodeTest → ℕ
test_nesting test.AnyNode = 1
test_nesting test.AnyElement = 1
test_nesting _ = 0

-- the test of a step; `..` stands for `parent::node()`
abbrev pub axis_nesting : Axis → NodeTest → ℕ
axis_nesting axis.Parent test.AnyNode = 0
axis_nesting _ t = test_nesting t

-- whether it is the step `descendant-or-self::node()`, by the number of its predicates
abbrev pub is_descendants_by : Construct → ℕ → Bool
is_descendants_by (tree.Step axis.DescendantOrSelf test.AnyNode) count = nat_eq count 0
is_descendants_by _ count = false

-- a construct by what is seen of its parts: the operators that are words or `*` are `or`, `and`, `to`, `*`, `idiv`, `mod`, `intersect` and
-- `except`
abbrev pub nested_by : Construct → List Nested → Bool → ℕ
nested_by tree.Comma parts behind = if nat_eq (length parts) 0 then 1 else chain_before behind false 1 parts
nested_by (tree.For names) parts behind = clauses_before behind parts
nested_by (tree.Let names) parts behind = clauses_before behind parts
nested_by (tree.Quantified quantifier names) parts behind = clauses_before behind parts
nested_by tree.If parts behind = choice_before behind parts
nested_by tree.Or parts behind = chain_before behind true 3 parts
nested_by tree.And parts behind = chain_before behind true 4 parts
nested_by (tree.Comparison op) parts behind = chain_before behind false 5 parts
nested_by tree.Concatenation parts behind = chain_before behind false 6 parts
nested_by tree.Range parts behind = chain_before behind true 7 parts
nested_by (tree.Additive' operators) parts behind = chain_before behind false 8 parts
nested_by (tree.Multiplicative' operators) parts behind = chain_before behind true 9 parts
nested_by tree.Union parts behind = chain_before behind false 10 parts
nested_by (tree.IntersectExcept operators) parts behind = chain_before behind true 11 parts
nested_by (tree.Unary sign) parts behind = 1 + chain_before behind false 11 parts
nested_by tree.SimpleMap parts behind = chain_before behind false 13 parts
nested_by tree.Path parts behind = steps_before behind parts
nested_by tree.Root parts behind = if behind then 1 else 0
nested_by (tree.Step a t) parts behind = max (axis_nesting a t) (enclosed parts)
nested_by (tree.AttributeStep t) parts behind = max (test_nesting t) (enclosed parts)
nested_by tree.Filter parts behind = filter_inside parts
nested_by (tree.Call function) parts behind = 1 + chain_before false false 1 parts
nested_by (tree.PmdCall function) parts behind = 1 + chain_before false false 1 parts
nested_by _ parts behind = 0

unfoldable mutual
  -- what the surroundings see of the text of a tree
  pub nested_of : Tree → Nested
  nested_of (Node construct parts) = record {
    level = level_by construct (length (nested_each parts));
    is_descendants = is_descendants_by construct (length (nested_each parts));
    nesting = nested_by construct (nested_each parts);
  }

  -- of each tree of a list
  pub nested_each : Trees → List Nested
  nested_each NoMore = []
  nested_each (More first rest) = nested_of first ∷ nested_each rest

-- the nesting of a text that is the expression alone
abbrev pub nesting_of_tree : Tree → ℕ
nesting_of_tree t = (nested_of t).nesting false
