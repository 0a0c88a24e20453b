-- What the surroundings see of an expression, said of its tree: level, nesting, and where it may stand. Of an `Expr` the same is said
-- beside its type, with the meaning of each number: here it is said by construct, of a list of parts.
use Rattle.std.specs.Prelude.{ℕ, ◌+◌, Bool, false, not, ◌&&◌, ◌||◌, List, [], ◌∷◌, length, map, max, nat_eq, nat_le, if◌then◌else◌}
use Rattle.pj_xexpressions.specs.Among.{is_among}
use Rattle.pj_xexpressions.specs.Functions.{takes, pmd_takes}
use Rattle.pj_xexpressions.specs.Expressions.{Part, Scope, Written, Literal, Number, Name, Other, operand, operands, clause, predicates_nesting, steps_nesting, all_fit, chain_fits, with_variable, arguments_fit, is_digits, most}
use Rattle.pj_xexpressions.specs.Trees as tree
use Rattle.pj_xexpressions.specs.Trees.{Tree, Trees, Construct, Node, NoMore, More}

-- how a construct is written as an argument, where that decides
abbrev pub written_by : Construct → Written
written_by (tree.String text) = Literal text
written_by (tree.Integer value) = Number
written_by (tree.Variable name) = Name name
written_by _ = Other

-- the level of a construct with so many parts (XPath 2.0, A.4, with those of XPath 3.1, A.4)
abbrev pub level_by : Construct → ℕ → ℕ
level_by tree.Comma count = if nat_eq count 0 then 16 else 0
level_by (tree.For names) count = 1
level_by (tree.Let names) count = 1
level_by (tree.Quantified quantifier names) count = 1
level_by tree.If count = 1
level_by tree.Or count = 2
level_by tree.And count = 3
level_by (tree.Comparison op) count = 4
level_by tree.Concatenation count = 5
level_by tree.Range count = 6
level_by (tree.Additive' operators) count = 7
level_by (tree.Multiplicative' operators) count = 8
level_by tree.Union count = 9
level_by (tree.IntersectExcept operators) count = 10
level_by (tree.Unary sign) count = 11
level_by tree.SimpleMap count = 12
level_by tree.Path count = 13
level_by tree.Root count = 14
level_by (tree.Step axis test) count = 15
level_by (tree.AttributeStep test) count = 15
level_by tree.Filter count = 15
level_by _ count = 16

-- the expressions of variables, each behind `in` or `:=`, and the body behind `return` or `satisfies`
abbrev pub clauses_nesting : List Part → ℕ
clauses_nesting parts = most (map clause parts)

-- the test of an `if`, in parentheses, and the expressions behind `then` and `else`
abbrev pub choice_nesting : List Part → ℕ
choice_nesting [] = 0
choice_nesting (test ∷ branches) = max (1 + test.nesting) (clauses_nesting branches)

-- the first part is a primary expression, the others are predicates
abbrev pub filter_nesting : List Part → ℕ
filter_nesting [] = 0
filter_nesting (primary ∷ predicates) = max (operand 16 primary) (predicates_nesting predicates)

-- the operand of a sign
abbrev pub signed_nesting : List Part → ℕ
signed_nesting parts = 1 + operands 11 parts

-- the nesting of a construct's text, by its parts
abbrev pub nesting_by : Construct → List Part → ℕ
nesting_by tree.Comma parts = if nat_eq (length parts) 0 then 1 else operands 1 parts
nesting_by (tree.For names) parts = clauses_nesting parts
nesting_by (tree.Let names) parts = clauses_nesting parts
nesting_by (tree.Quantified quantifier names) parts = clauses_nesting parts
nesting_by tree.If parts = choice_nesting parts
nesting_by tree.Or parts = operands 3 parts
nesting_by tree.And parts = operands 4 parts
nesting_by (tree.Comparison op) parts = operands 5 parts
nesting_by tree.Concatenation parts = operands 6 parts
nesting_by tree.Range parts = operands 7 parts
nesting_by (tree.Additive' operators) parts = operands 8 parts
nesting_by (tree.Multiplicative' operators) parts = operands 9 parts
nesting_by tree.Union parts = operands 10 parts
nesting_by (tree.IntersectExcept operators) parts = operands 11 parts
nesting_by (tree.Unary sign) parts = signed_nesting parts
nesting_by tree.SimpleMap parts = operands 13 parts
nesting_by tree.Path parts = steps_nesting parts
nesting_by tree.Root parts = 0
nesting_by (tree.Step axis test) parts = predicates_nesting parts
nesting_by (tree.AttributeStep test) parts = predicates_nesting parts
nesting_by tree.Filter parts = filter_nesting parts
nesting_by (tree.Call function) parts = 1 + operands 1 parts
nesting_by (tree.PmdCall function) parts = 1 + operands 1 parts
nesting_by _ parts = 0

-- Each variable is seen by the expressions behind its own, and all are seen by the last part, which is the body.
abbrev pub scoped_fit : List (List ℕ) → List Part → Scope → Bool
scoped_fit [] parts scope = nat_eq (length parts) 1 && all_fit scope parts
scoped_fit (name ∷ names) [] scope = false
scoped_fit (name ∷ names) (part ∷ parts) scope = part.fits scope && scoped_fit names parts (with_variable name scope)

-- a `for`, `let`, `some` or `every`, which binds one variable or more
abbrev pub binder_fits : List (List ℕ) → List Part → Scope → Bool
binder_fits names parts scope = nat_le 1 (length names) && scoped_fit names parts scope

-- so many parts
abbrev pub exactly : ℕ → List Part → Scope → Bool
exactly count parts scope = nat_eq (length parts) count && all_fit scope parts

-- a first operand, and one behind each operator, of which there is one or more
abbrev pub operators_fit : ℕ → List Part → Scope → Bool
operators_fit operators parts scope = nat_le 1 operators && exactly (1 + operators) parts scope

-- whether a construct may stand at a place with these variables, by its parts
abbrev pub fits_by : Construct → List Part → Scope → Bool
fits_by tree.Comma parts scope = not (nat_eq (length parts) 1) && all_fit scope parts
fits_by (tree.For names) parts scope = binder_fits names parts scope
fits_by (tree.Let names) parts scope = binder_fits names parts scope
fits_by (tree.Quantified quantifier names) parts scope = binder_fits names parts scope
fits_by tree.If parts scope = exactly 3 parts scope
fits_by tree.Or parts scope = chain_fits scope parts
fits_by tree.And parts scope = chain_fits scope parts
fits_by (tree.Comparison op) parts scope = exactly 2 parts scope
fits_by tree.Concatenation parts scope = chain_fits scope parts
fits_by tree.Range parts scope = exactly 2 parts scope
fits_by (tree.Additive' operators) parts scope = operators_fit (length operators) parts scope
fits_by (tree.Multiplicative' operators) parts scope = operators_fit (length operators) parts scope
fits_by tree.Union parts scope = chain_fits scope parts
fits_by (tree.IntersectExcept operators) parts scope = operators_fit (length operators) parts scope
fits_by (tree.Unary sign) parts scope = exactly 1 parts scope
fits_by tree.SimpleMap parts scope = chain_fits scope parts
fits_by tree.Path parts scope = chain_fits scope parts
fits_by tree.Root parts scope = exactly 0 parts scope
fits_by (tree.Step axis test) parts scope = all_fit scope parts
fits_by (tree.AttributeStep test) parts scope = all_fit scope parts
fits_by tree.Filter parts scope = chain_fits scope parts
fits_by (tree.Integer value) parts scope = is_digits value && exactly 0 parts scope
fits_by (tree.String text) parts scope = exactly 0 parts scope
fits_by (tree.Variable name) parts scope = (is_among name scope.bound || is_among name scope.given) && exactly 0 parts scope
fits_by tree.ContextItem parts scope = exactly 0 parts scope
fits_by (tree.Call function) parts scope = takes function (length parts) && arguments_fit function scope (map (λ part. part.written) parts) && all_fit scope parts
fits_by (tree.PmdCall function) parts scope = pmd_takes function (length parts) && all_fit scope parts

-- what the surroundings see of a construct, by what is seen of its parts
abbrev pub part_by : Construct → List Part → Part
part_by construct parts = record {
  written = written_by construct;
  level = level_by construct (length parts);
  nesting = nesting_by construct parts;
  fits = fits_by construct parts;
}

unfoldable mutual
  -- what the surroundings see of a tree
  pub part_of_tree : Tree → Part
  part_of_tree (Node construct parts) = part_by construct (parts_of_trees parts)

  -- of each tree of a list
  pub parts_of_trees : Trees → List Part
  parts_of_trees NoMore = []
  parts_of_trees (More first rest) = part_of_tree first ∷ parts_of_trees rest
