-- The patterns that an expression is written with: the second arguments of `matches`, `tokenize` and `replace`.
use Rattle.std.specs.Prelude.{ℕ, List, [], ◌∷◌, ◌++◌, map, take, drop, flat_map, Option, Some, None, slice_get, nat_eq, if◌then◌else◌}
use Rattle.std.specs.Cmp.Lexicographic.{pointwise}
use Rattle.pj_xexpressions.specs.declared.function.Function.{Function}
use Rattle.pj_xexpressions.specs.declared.function.Function.TheVariants as f
use Rattle.pj_xexpressions.specs.declared.expr.Expr.{Expr}
use Rattle.pj_xexpressions.specs.declared.expr.Expr.TheOpen.{Expr-F}
use Rattle.pj_xexpressions.specs.declared.expr.Expr.TheFolds.{fold-Expr}
use Rattle.pj_xvalue.specs.declared.item.Item.{Item}
use Rattle.pj_xexpressions.specs.Expressions.{Written, Literal, Name, written_as}
use Rattle.pj_xvalue.specs.Items.{ItemValue, String, values_of}
use Rattle.pj_xpatterns.specs.declared.flags.PatternFlags.{PatternFlags}
use Rattle.pj_xpatterns.specs.Meaning.{Text, Pattern, flags_of, no_flags}

-- the variables that are given to the expression, with their values: of two of one name the first counts
abbrev pub Variables : Type 0
Variables = List (Text × List ItemValue)

abbrev pub variables_of : List (Text × List Item) → Variables
variables_of variables = map (λ variable. (variable.0, values_of variable.1)) variables

-- the text of a sequence that is one string
abbrev pub one_string : List ItemValue → Option Text
one_string (String text ∷ []) = Some text
one_string _ = None

-- the text of the variable, where its value is one string
abbrev pub text_of_variable : Variables → Text → Option Text
text_of_variable [] name = None
text_of_variable (variable ∷ rest) name = if pointwise nat_eq variable.0 name then one_string variable.1 else text_of_variable rest name

-- The text of a pattern: a literal, or a variable whose value is one string. Nothing else is a pattern.
abbrev pub pattern_text : Variables → Option Written → Option Text
pattern_text variables (Some (Literal text)) = Some text
pattern_text variables (Some (Name name)) = text_of_variable variables name
pattern_text variables _ = None

-- the flags of a call: a literal, and none where the argument is not there
abbrev pub written_flags : Option Written → Option PatternFlags
written_flags None = Some no_flags
written_flags (Some (Literal text)) = flags_of text
written_flags (Some _) = None

abbrev pub couple : Option Text → Option PatternFlags → List Pattern
couple (Some text) (Some flags) = (text, flags) ∷ []
couple _ _ = []

-- which argument is the flags of a function that takes a pattern, counted from 0
abbrev pub flags_place : Function → Option ℕ
flags_place f.Matches = Some 2
flags_place f.Tokenize = Some 2
flags_place f.Replace = Some 3
flags_place _ = None

-- the pattern of a call with its flags, where it has one
abbrev pub pattern_at : Variables → Option ℕ → List Written → List Pattern
pattern_at variables (Some place) arguments = couple (pattern_text variables (slice_get arguments 1)) (written_flags (slice_get arguments place))
pattern_at variables None arguments = []

abbrev pub own_pattern : Variables → Function → List Written → List Pattern
own_pattern variables function arguments = pattern_at variables (flags_place function) arguments

-- what the surroundings see of an expression: how it is written, and its patterns in the order of the text
pub record Seen : Type 0 where
  pub written : Written
  pub patterns : List Pattern

abbrev pub of_each : List Seen → List Pattern
of_each parts = flat_map (λ part. part.patterns) parts

abbrev pub of_second : {A : Type 0} → List (A × Seen) → List Pattern
of_second parts = flat_map (λ part. part.1.patterns) parts

-- the patterns of the first argument, the call's own, and those of the further arguments
abbrev pub of_call : Variables → Function → List Seen → List Pattern
of_call variables function arguments = of_each (take 1 arguments) ++ (own_pattern variables function (map (λ argument. argument.written) arguments) ++ of_each (drop 1 arguments))

abbrev pub layer_patterns : Variables → Expr-F Seen → List Pattern
layer_patterns variables (Expr-F.Comma parts) = of_each parts.items
layer_patterns variables (Expr-F.For bindings body) = of_second bindings.items ++ body.value.patterns
layer_patterns variables (Expr-F.Let bindings body) = of_second bindings.items ++ body.value.patterns
layer_patterns variables (Expr-F.Quantified quantifier bindings test) = of_second bindings.items ++ test.value.patterns
layer_patterns variables (Expr-F.If test chosen other) = test.value.patterns ++ (chosen.value.patterns ++ other.value.patterns)
layer_patterns variables (Expr-F.Or parts) = of_each parts.items
layer_patterns variables (Expr-F.And parts) = of_each parts.items
layer_patterns variables (Expr-F.Comparison op left right) = left.value.patterns ++ right.value.patterns
layer_patterns variables (Expr-F.Concatenation parts) = of_each parts.items
layer_patterns variables (Expr-F.Range from to) = from.value.patterns ++ to.value.patterns
layer_patterns variables (Expr-F.Additive first rest) = first.value.patterns ++ of_second rest.items
layer_patterns variables (Expr-F.Multiplicative first rest) = first.value.patterns ++ of_second rest.items
layer_patterns variables (Expr-F.Union parts) = of_each parts.items
layer_patterns variables (Expr-F.IntersectExcept first rest) = first.value.patterns ++ of_second rest.items
layer_patterns variables (Expr-F.Unary sign operand) = operand.value.patterns
layer_patterns variables (Expr-F.SimpleMap parts) = of_each parts.items
layer_patterns variables (Expr-F.Path steps) = of_each steps.items
layer_patterns variables Expr-F.Root = []
layer_patterns variables (Expr-F.Step axis test predicates) = of_each predicates.items
layer_patterns variables (Expr-F.AttributeStep test predicates) = of_each predicates.items
layer_patterns variables (Expr-F.Filter primary predicates) = primary.value.patterns ++ of_each predicates.items
layer_patterns variables (Expr-F.Integer value) = []
layer_patterns variables (Expr-F.String text) = []
layer_patterns variables (Expr-F.Variable name) = []
layer_patterns variables Expr-F.ContextItem = []
layer_patterns variables (Expr-F.Call function arguments) = of_call variables function arguments.items
layer_patterns variables (Expr-F.PmdCall function arguments) = of_each arguments.items

abbrev pub seen_step : Variables → Expr-F Seen → Seen
seen_step variables layer = record { written = written_as layer; patterns = layer_patterns variables layer }

-- what the surroundings see of the expression
unfoldable pub seen_of : Variables → Expr → Seen
seen_of variables = fold-Expr Seen (seen_step variables)

-- the patterns of an expression with their flags, in the order of the text
abbrev pub patterns_in : Variables → Expr → List Pattern
patterns_in variables e = (seen_of variables e).patterns

-- an expression behind a variable's name, and one behind an operator
abbrev pub bound_seen : Variables → Text × Expr → Text × Seen
bound_seen variables binding = (binding.0, seen_of variables binding.1)

abbrev pub next_seen : {O : Type 0} → Variables → O × Expr → O × Seen
next_seen variables next = (next.0, seen_of variables next.1)
