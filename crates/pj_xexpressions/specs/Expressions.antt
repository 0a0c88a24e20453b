-- Which values of `Expr` are expressions. What the parser reads of a text is one. That each of them is what some text spells is said
-- nowhere: its printed form is, under further conditions that are said with that form.
use Rattle.std.specs.Prelude.{ℕ, ◌+◌, ◌≤◌, ℤ, pos, negsuc, Bool, true, false, not, ◌&&◌, ◌||◌, List, [], ◌∷◌, length, map, Option, Some, None, IsTrue, if◌then◌else◌, nat_le, nat_lt, nat_eq, max, codes}
use Rattle.std.specs.List.{list_all, list_any}
use Rattle.pj_xexpressions.specs.declared.function.Function.{Function}
use Rattle.pj_xexpressions.specs.declared.function.Function.TheVariants as f
use Rattle.pj_xexpressions.specs.declared.expr.Expr.{Expr}
use Rattle.pj_xexpressions.specs.declared.expr.Expr.TheOpen.{Expr-F}
use Rattle.pj_xexpressions.specs.declared.expr.Expr.TheFolds.{fold-Expr}
use Rattle.pj_xexpressions.specs.Among.{is_among}
use Rattle.pj_xexpressions.specs.Functions.{takes, pmd_takes}

-- The variables at a place of an expression: those that the rule set gives to the whole expression, and those that a
-- `for`, `let`, `some` or `every` around the place binds.
pub record Scope : Type 0 where
  pub given : List (List ℕ)
  pub bound : List (List ℕ)

-- an argument as it is written, where that decides: a string literal, an integer literal, a variable or anything else
pub data Written : Type 0 where
  Literal : List ℕ → Written
  Number : Written
  Name : List ℕ → Written
  Other : Written

-- What the surroundings see of an expression.
pub record Part : Type 0 where
  pub written : Written
  -- the level of its operator, below
  pub level : ℕ
  -- the nesting of its text, below
  pub nesting : ℕ
  -- whether it may stand at a place with these variables
  pub fits : Scope → Bool

abbrev pub written_as : {A : Type 0} → Expr-F A → Written
written_as (Expr-F.String text) = Literal text
written_as (Expr-F.Integer value) = Number
written_as (Expr-F.Variable name) = Name name
written_as _ = Other

-- The levels of the operators, from low to high (XPath 2.0, A.4, with those of XPath 3.1, A.4): what stands as an operand
-- of one level without parentheses is of a higher one. At 14 is the `/` at the beginning of a path, at 15 a step or an
-- expression with predicates, at 16 a primary expression, which `()` is too.
abbrev pub level_of : {A : Type 0} → Expr-F A → ℕ
level_of (Expr-F.Comma parts) = if nat_eq (length parts.items) 0 then 16 else 0
level_of (Expr-F.For bindings body) = 1
level_of (Expr-F.Let bindings body) = 1
level_of (Expr-F.Quantified quantifier bindings test) = 1
level_of (Expr-F.If test chosen other) = 1
level_of (Expr-F.Or parts) = 2
level_of (Expr-F.And parts) = 3
level_of (Expr-F.Comparison op left right) = 4
level_of (Expr-F.Concatenation parts) = 5
level_of (Expr-F.Range from to) = 6
level_of (Expr-F.Additive first rest) = 7
level_of (Expr-F.Multiplicative first rest) = 8
level_of (Expr-F.Union parts) = 9
level_of (Expr-F.IntersectExcept first rest) = 10
level_of (Expr-F.Unary sign operand) = 11
level_of (Expr-F.SimpleMap parts) = 12
level_of (Expr-F.Path steps) = 13
level_of Expr-F.Root = 14
level_of (Expr-F.Step axis test predicates) = 15
level_of (Expr-F.AttributeStep test predicates) = 15
level_of (Expr-F.Filter primary predicates) = 15
level_of (Expr-F.Integer value) = 16
level_of (Expr-F.String text) = 16
level_of (Expr-F.Variable name) = 16
level_of Expr-F.ContextItem = 16
level_of (Expr-F.Call function arguments) = 16
level_of (Expr-F.PmdCall function arguments) = 16

-- the greatest of some numbers
abbrev pub most : List ℕ → ℕ
most [] = 0
most (n ∷ ns) = max n (most ns)

-- an operand, in parentheses where its level is below the least that may stand there without
abbrev pub operand : ℕ → Part → ℕ
operand least part = if nat_lt part.level least then 1 + part.nesting else part.nesting

-- the operands of a chain
abbrev pub operands : ℕ → List Part → ℕ
operands least parts = most (map (operand least) parts)

-- an expression behind `in`, `:=`, `return`, `satisfies`, `then` or `else`
abbrev pub clause : Part → ℕ
clause part = 1 + operand 1 part

-- the variables of a `for`, `let`, `some` or `every`, and what follows them
abbrev pub clauses : List (List ℕ × Part) → Part → ℕ
clauses bindings body = max (most (map (λ binding. clause binding.1) bindings)) (clause body)

abbrev pub predicates_nesting : List Part → ℕ
predicates_nesting predicates = most (map (λ predicate. 1 + predicate.nesting) predicates)

abbrev pub steps_nesting : List Part → ℕ
steps_nesting [] = 0
steps_nesting (first ∷ rest) = max (operand 14 first) (operands 15 rest)

-- The nesting of an expression's text: how many parentheses, predicates, argument lists, `in`, `:=`, `return`,
-- `satisfies`, `then`, `else` and signs are open where the most are, in a text with no parentheses but those that the
-- levels ask for. A chain of operators or of steps does not nest.
abbrev pub nesting_of : Expr-F Part → ℕ
nesting_of (Expr-F.Comma parts) = if nat_eq (length parts.items) 0 then 1 else operands 1 parts.items
nesting_of (Expr-F.For bindings body) = clauses bindings.items body.value
nesting_of (Expr-F.Let bindings body) = clauses bindings.items body.value
nesting_of (Expr-F.Quantified quantifier bindings test) = clauses bindings.items test.value
nesting_of (Expr-F.If test chosen other) = max (1 + test.value.nesting) (max (clause chosen.value) (clause other.value))
nesting_of (Expr-F.Or parts) = operands 3 parts.items
nesting_of (Expr-F.And parts) = operands 4 parts.items
nesting_of (Expr-F.Comparison op left right) = max (operand 5 left.value) (operand 5 right.value)
nesting_of (Expr-F.Concatenation parts) = operands 6 parts.items
nesting_of (Expr-F.Range from to) = max (operand 7 from.value) (operand 7 to.value)
nesting_of (Expr-F.Additive first rest) = max (operand 8 first.value) (operands 8 (map (λ next. next.1) rest.items))
nesting_of (Expr-F.Multiplicative first rest) = max (operand 9 first.value) (operands 9 (map (λ next. next.1) rest.items))
nesting_of (Expr-F.Union parts) = operands 10 parts.items
nesting_of (Expr-F.IntersectExcept first rest) = max (operand 11 first.value) (operands 11 (map (λ next. next.1) rest.items))
nesting_of (Expr-F.Unary sign part) = 1 + operand 11 part.value
nesting_of (Expr-F.SimpleMap parts) = operands 13 parts.items
nesting_of (Expr-F.Path steps) = steps_nesting steps.items
nesting_of Expr-F.Root = 0
nesting_of (Expr-F.Step axis test predicates) = predicates_nesting predicates.items
nesting_of (Expr-F.AttributeStep test predicates) = predicates_nesting predicates.items
nesting_of (Expr-F.Filter primary predicates) = max (operand 16 primary.value) (predicates_nesting predicates.items)
nesting_of (Expr-F.Integer value) = 0
nesting_of (Expr-F.String text) = 0
nesting_of (Expr-F.Variable name) = 0
nesting_of Expr-F.ContextItem = 0
nesting_of (Expr-F.Call function arguments) = 1 + operands 1 arguments.items
nesting_of (Expr-F.PmdCall function arguments) = 1 + operands 1 arguments.items

-- with one more variable
abbrev pub with_variable : List ℕ → Scope → Scope
with_variable name scope = record { given = scope.given; bound = name ∷ scope.bound }

-- A pattern is a literal or a variable of the rule set.
abbrev pub is_pattern : Scope → Written → Bool
is_pattern scope (Literal text) = true
is_pattern scope Number = true
is_pattern scope (Name name) = is_among name scope.given && not (is_among name scope.bound)
is_pattern scope Other = false

-- Flags are a string literal of the letters i, m and s.
abbrev pub are_flags : Written → Bool
are_flags (Literal text) = list_all (λ letter. list_any (nat_eq letter) (codes "ims")) text
are_flags _ = false

-- A replacement is a string literal without `$` and `\`.
abbrev pub is_replacement : Written → Bool
is_replacement (Literal text) = list_all (λ byte. not (list_any (nat_eq byte) (codes "$\\"))) text
is_replacement _ = false

-- whether the arguments of the function are written as it asks
abbrev pub arguments_fit : Function → Scope → List Written → Bool
arguments_fit f.Matches scope (text ∷ pattern ∷ []) = is_pattern scope pattern
arguments_fit f.Matches scope (text ∷ pattern ∷ flags ∷ []) = is_pattern scope pattern && are_flags flags
arguments_fit f.Tokenize scope (text ∷ pattern ∷ []) = is_pattern scope pattern
arguments_fit f.Tokenize scope (text ∷ pattern ∷ flags ∷ []) = is_pattern scope pattern && are_flags flags
arguments_fit f.Replace scope (text ∷ pattern ∷ replacement ∷ []) = is_pattern scope pattern && is_replacement replacement
arguments_fit f.Replace scope (text ∷ pattern ∷ replacement ∷ flags ∷ []) = is_pattern scope pattern && is_replacement replacement && are_flags flags
arguments_fit _ scope _ = true

abbrev pub all_fit : Scope → List Part → Bool
all_fit scope parts = list_all (λ part. part.fits scope) parts

-- a chain without operators of its own has two operands or more
abbrev pub chain_fits : Scope → List Part → Bool
chain_fits scope parts = nat_le 2 (length parts) && all_fit scope parts

-- Each variable is seen by the bindings behind it, and all are seen by what follows them.
abbrev pub bindings_fit : List (List ℕ × Part) → Part → Scope → Bool
bindings_fit [] body scope = body.fits scope
bindings_fit (binding ∷ rest) body scope = binding.1.fits scope && bindings_fit rest body (with_variable binding.0 scope)

-- a `for`, `let`, `some` or `every`, which binds one variable or more
abbrev pub binder_fits : Scope → List (List ℕ × Part) → Part → Bool
binder_fits scope bindings body = nat_le 1 (length bindings) && bindings_fit bindings body scope

-- a first operand, and one or more behind operators of their own
abbrev pub operated_fits : Scope → Part → List Part → Bool
operated_fits scope first rest = nat_le 1 (length rest) && first.fits scope && all_fit scope rest

-- A literal of digits has no sign.
abbrev pub is_digits : Option ℤ → Bool
is_digits (Some (pos n)) = true
is_digits (Some (negsuc n)) = false
is_digits None = true

-- Whether an expression may stand at a place with these variables. Its chains have two operands or more, its calls have
-- numbers of arguments that the functions take, patterns, flags and replacements are written as they may be, and its
-- variables are there.
abbrev pub layer_fits : Expr-F Part → Scope → Bool
layer_fits (Expr-F.Comma parts) scope = not (nat_eq (length parts.items) 1) && all_fit scope parts.items
layer_fits (Expr-F.For bindings body) scope = binder_fits scope bindings.items body.value
layer_fits (Expr-F.Let bindings body) scope = binder_fits scope bindings.items body.value
layer_fits (Expr-F.Quantified quantifier bindings test) scope = binder_fits scope bindings.items test.value
layer_fits (Expr-F.If test chosen other) scope = test.value.fits scope && chosen.value.fits scope && other.value.fits scope
layer_fits (Expr-F.Or parts) scope = chain_fits scope parts.items
layer_fits (Expr-F.And parts) scope = chain_fits scope parts.items
layer_fits (Expr-F.Comparison op left right) scope = left.value.fits scope && right.value.fits scope
layer_fits (Expr-F.Concatenation parts) scope = chain_fits scope parts.items
layer_fits (Expr-F.Range from to) scope = from.value.fits scope && to.value.fits scope
layer_fits (Expr-F.Additive first rest) scope = operated_fits scope first.value (map (λ next. next.1) rest.items)
layer_fits (Expr-F.Multiplicative first rest) scope = operated_fits scope first.value (map (λ next. next.1) rest.items)
layer_fits (Expr-F.Union parts) scope = chain_fits scope parts.items
layer_fits (Expr-F.IntersectExcept first rest) scope = operated_fits scope first.value (map (λ next. next.1) rest.items)
layer_fits (Expr-F.Unary sign part) scope = part.value.fits scope
layer_fits (Expr-F.SimpleMap parts) scope = chain_fits scope parts.items
layer_fits (Expr-F.Path steps) scope = chain_fits scope steps.items
layer_fits Expr-F.Root scope = true
layer_fits (Expr-F.Step axis test predicates) scope = all_fit scope predicates.items
layer_fits (Expr-F.AttributeStep test predicates) scope = all_fit scope predicates.items
layer_fits (Expr-F.Filter primary predicates) scope = operated_fits scope primary.value predicates.items
layer_fits (Expr-F.Integer value) scope = is_digits value
layer_fits (Expr-F.String text) scope = true
layer_fits (Expr-F.Variable name) scope = is_among name scope.bound || is_among name scope.given
layer_fits Expr-F.ContextItem scope = true
layer_fits (Expr-F.Call function arguments) scope = takes function (length arguments.items) && arguments_fit function scope (map (λ argument. argument.written) arguments.items) && all_fit scope arguments.items
layer_fits (Expr-F.PmdCall function arguments) scope = pmd_takes function (length arguments.items) && all_fit scope arguments.items

abbrev pub part_step : Expr-F Part → Part
part_step layer = record { written = written_as layer; level = level_of layer; nesting = nesting_of layer; fits = layer_fits layer }

-- what the surroundings see of the expression
unfoldable pub part_of : Expr → Part
part_of = fold-Expr Part part_step

-- That the value is an expression, where the rule set gives these variables: it may stand where these are there, and its nesting is at
-- most 200. Under which further conditions some text spells it is said with its printed form.
pub record IsExpression (variables : List (List ℕ)) (e : Expr) : Type 0 where
  pub fits : IsTrue ((part_of e).fits (record { given = variables; bound = [] }))
  pub shallow : (part_of e).nesting ≤ 200
