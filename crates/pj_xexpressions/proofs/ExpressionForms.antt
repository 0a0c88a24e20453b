-- What each form of an expression is seen as, by what its parts are seen as.
use Rattle.std.proofs.Common.{◌≡◌, ℕ, ◌+◌, ℤ, true, not, ◌&&◌, ◌||◌, if◌then◌else◌, List, length, map, max, nat_eq, Option, Vec, Box, Global}
use Rattle.pj_xexpressions.specs.declared.axis.Axis.{Axis}
use Rattle.pj_xexpressions.specs.declared.function.Function.{Function}
use Rattle.pj_xexpressions.specs.declared.operator.Compare.{Compare}
use Rattle.pj_xexpressions.specs.declared.pmd_function.PmdFunction.{PmdFunction}
use Rattle.pj_xexpressions.specs.declared.operator.Additive.{Additive}
use Rattle.pj_xexpressions.specs.declared.operator.Multiplicative.{Multiplicative}
use Rattle.pj_xexpressions.specs.declared.expr.NodeTest.{NodeTest}
use Rattle.pj_xexpressions.specs.declared.operator.Quantifier.{Quantifier}
use Rattle.pj_xexpressions.specs.declared.operator.SetOperator.{SetOperator}
use Rattle.pj_xexpressions.specs.declared.operator.Sign.{Sign}
use Rattle.pj_xexpressions.specs.declared.expr.Expr.{Expr}
use Rattle.pj_xexpressions.specs.declared.expr.Expr.TheOpen.{Expr-F}
use Rattle.pj_xexpressions.specs.declared.expr.Expr.TheVariants as expr
use Rattle.pj_xexpressions.specs.declared.expr.Expr.TheViews.{roll-Expr}
use Rattle.pj_xexpressions.specs.declared.expr.Expr.TheFolds.{fold-roll-Expr}
use Rattle.pj_xexpressions.specs.Among.{is_among}
use Rattle.pj_xexpressions.specs.Functions.{takes, pmd_takes}
use Rattle.pj_xexpressions.specs.Expressions.{Part, Literal, Number, Name, Other, operand, operands, clause, clauses, predicates_nesting, steps_nesting, arguments_fit, all_fit, chain_fits, binder_fits, operated_fits, is_digits, part_step, part_of}

-- a variable with what its expression is seen as
abbrev pub bound_part : List ℕ × Expr → List ℕ × Part
bound_part binding = (binding.0, part_of binding.1)

-- an operator with what its operand is seen as
abbrev pub next_part : {O : Type 0} → O × Expr → O × Part
next_part next = (next.0, part_of next.1)

pub part_of-Comma : (parts : Vec Expr Global) → part_of (expr.Comma parts) ≡ record { written = Other; level = if nat_eq (length (map part_of parts.items)) 0 then 16 else 0; nesting = if nat_eq (length (map part_of parts.items)) 0 then 1 else operands 1 (map part_of parts.items); fits = λ scope. not (nat_eq (length (map part_of parts.items)) 1) && all_fit scope (map part_of parts.items) }
unfolding part_of roll-Expr denote.Hole.Carrier.roll
part_of-Comma parts = fold-roll-Expr Part part_step (Expr-F.Comma parts)

pub part_of-For : (bindings : Vec (List ℕ × Expr) Global) (body : Box Expr Global) → part_of (expr.For bindings body) ≡ record { written = Other; level = 1; nesting = clauses (map bound_part bindings.items) (part_of body.value); fits = λ scope. binder_fits scope (map bound_part bindings.items) (part_of body.value) }
unfolding part_of roll-Expr denote.Hole.Carrier.roll
part_of-For bindings body = fold-roll-Expr Part part_step (Expr-F.For bindings body)

pub part_of-Let : (bindings : Vec (List ℕ × Expr) Global) (body : Box Expr Global) → part_of (expr.Let bindings body) ≡ record { written = Other; level = 1; nesting = clauses (map bound_part bindings.items) (part_of body.value); fits = λ scope. binder_fits scope (map bound_part bindings.items) (part_of body.value) }
unfolding part_of roll-Expr denote.Hole.Carrier.roll
part_of-Let bindings body = fold-roll-Expr Part part_step (Expr-F.Let bindings body)

pub part_of-Quantified : (quantifier : Quantifier) (bindings : Vec (List ℕ × Expr) Global) (test : Box Expr Global) → part_of (expr.Quantified quantifier bindings test) ≡ record { written = Other; level = 1; nesting = clauses (map bound_part bindings.items) (part_of test.value); fits = λ scope. binder_fits scope (map bound_part bindings.items) (part_of test.value) }
unfolding part_of roll-Expr denote.Hole.Carrier.roll
part_of-Quantified quantifier bindings test = fold-roll-Expr Part part_step (Expr-F.Quantified quantifier bindings test)

pub part_of-If : (test chosen other : Box Expr Global) → part_of (expr.If test chosen other) ≡ record { written = Other; level = 1; nesting = max (1 + (part_of test.value).nesting) (max (clause (part_of chosen.value)) (clause (part_of other.value))); fits = λ scope. (part_of test.value).fits scope && (part_of chosen.value).fits scope && (part_of other.value).fits scope }
unfolding part_of roll-Expr denote.Hole.Carrier.roll
part_of-If test chosen other = fold-roll-Expr Part part_step (Expr-F.If test chosen other)

pub part_of-Or : (parts : Vec Expr Global) → part_of (expr.Or parts) ≡ record { written = Other; level = 2; nesting = operands 3 (map part_of parts.items); fits = λ scope. chain_fits scope (map part_of parts.items) }
unfolding part_of roll-Expr denote.Hole.Carrier.roll
part_of-Or parts = fold-roll-Expr Part part_step (Expr-F.Or parts)

pub part_of-And : (parts : Vec Expr Global) → part_of (expr.And parts) ≡ record { written = Other; level = 3; nesting = operands 4 (map part_of parts.items); fits = λ scope. chain_fits scope (map part_of parts.items) }
unfolding part_of roll-Expr denote.Hole.Carrier.roll
part_of-And parts = fold-roll-Expr Part part_step (Expr-F.And parts)

pub part_of-Comparison : (op : Compare) (left right : Box Expr Global) → part_of (expr.Comparison op left right) ≡ record { written = Other; level = 4; nesting = max (operand 5 (part_of left.value)) (operand 5 (part_of right.value)); fits = λ scope. (part_of left.value).fits scope && (part_of right.value).fits scope }
unfolding part_of roll-Expr denote.Hole.Carrier.roll
part_of-Comparison op left right = fold-roll-Expr Part part_step (Expr-F.Comparison op left right)

pub part_of-Concatenation : (parts : Vec Expr Global) → part_of (expr.Concatenation parts) ≡ record { written = Other; level = 5; nesting = operands 6 (map part_of parts.items); fits = λ scope. chain_fits scope (map part_of parts.items) }
unfolding part_of roll-Expr denote.Hole.Carrier.roll
part_of-Concatenation parts = fold-roll-Expr Part part_step (Expr-F.Concatenation parts)

pub part_of-Range : (from to : Box Expr Global) → part_of (expr.Range from to) ≡ record { written = Other; level = 6; nesting = max (operand 7 (part_of from.value)) (operand 7 (part_of to.value)); fits = λ scope. (part_of from.value).fits scope && (part_of to.value).fits scope }
unfolding part_of roll-Expr denote.Hole.Carrier.roll
part_of-Range from to = fold-roll-Expr Part part_step (Expr-F.Range from to)

pub part_of-Additive : (first : Box Expr Global) (rest : Vec (Additive × Expr) Global) → part_of (expr.Additive first rest) ≡ record { written = Other; level = 7; nesting = max (operand 8 (part_of first.value)) (operands 8 (map (λ next. next.1) (map next_part rest.items))); fits = λ scope. operated_fits scope (part_of first.value) (map (λ next. next.1) (map next_part rest.items)) }
unfolding part_of roll-Expr denote.Hole.Carrier.roll
part_of-Additive first rest = fold-roll-Expr Part part_step (Expr-F.Additive first rest)

pub part_of-Multiplicative : (first : Box Expr Global) (rest : Vec (Multiplicative × Expr) Global) → part_of (expr.Multiplicative first rest) ≡ record { written = Other; level = 8; nesting = max (operand 9 (part_of first.value)) (operands 9 (map (λ next. next.1) (map next_part rest.items))); fits = λ scope. operated_fits scope (part_of first.value) (map (λ next. next.1) (map next_part rest.items)) }
unfolding part_of roll-Expr denote.Hole.Carrier.roll
part_of-Multiplicative first rest = fold-roll-Expr Part part_step (Expr-F.Multiplicative first rest)

pub part_of-Union : (parts : Vec Expr Global) → part_of (expr.Union parts) ≡ record { written = Other; level = 9; nesting = operands 10 (map part_of parts.items); fits = λ scope. chain_fits scope (map part_of parts.items) }
unfolding part_of roll-Expr denote.Hole.Carrier.roll
part_of-Union parts = fold-roll-Expr Part part_step (Expr-F.Union parts)

pub part_of-IntersectExcept : (first : Box Expr Global) (rest : Vec (SetOperator × Expr) Global) → part_of (expr.IntersectExcept first rest) ≡ record { written = Other; level = 10; nesting = max (operand 11 (part_of first.value)) (operands 11 (map (λ next. next.1) (map next_part rest.items))); fits = λ scope. operated_fits scope (part_of first.value) (map (λ next. next.1) (map next_part rest.items)) }
unfolding part_of roll-Expr denote.Hole.Carrier.roll
part_of-IntersectExcept first rest = fold-roll-Expr Part part_step (Expr-F.IntersectExcept first rest)

pub part_of-Unary : (sign : Sign) (part : Box Expr Global) → part_of (expr.Unary sign part) ≡ record { written = Other; level = 11; nesting = 1 + operand 11 (part_of part.value); fits = λ scope. (part_of part.value).fits scope }
unfolding part_of roll-Expr denote.Hole.Carrier.roll
part_of-Unary sign part = fold-roll-Expr Part part_step (Expr-F.Unary sign part)

pub part_of-SimpleMap : (parts : Vec Expr Global) → part_of (expr.SimpleMap parts) ≡ record { written = Other; level = 12; nesting = operands 13 (map part_of parts.items); fits = λ scope. chain_fits scope (map part_of parts.items) }
unfolding part_of roll-Expr denote.Hole.Carrier.roll
part_of-SimpleMap parts = fold-roll-Expr Part part_step (Expr-F.SimpleMap parts)

pub part_of-Path : (steps : Vec Expr Global) → part_of (expr.Path steps) ≡ record { written = Other; level = 13; nesting = steps_nesting (map part_of steps.items); fits = λ scope. chain_fits scope (map part_of steps.items) }
unfolding part_of roll-Expr denote.Hole.Carrier.roll
part_of-Path steps = fold-roll-Expr Part part_step (Expr-F.Path steps)

pub part_of-Root : part_of expr.Root ≡ record { written = Other; level = 14; nesting = 0; fits = λ scope. true }
unfolding part_of roll-Expr denote.Hole.Carrier.roll
part_of-Root = fold-roll-Expr Part part_step Expr-F.Root

pub part_of-Step : (axis : Axis) (test : NodeTest) (predicates : Vec Expr Global) → part_of (expr.Step axis test predicates) ≡ record { written = Other; level = 15; nesting = predicates_nesting (map part_of predicates.items); fits = λ scope. all_fit scope (map part_of predicates.items) }
unfolding part_of roll-Expr denote.Hole.Carrier.roll
part_of-Step axis test predicates = fold-roll-Expr Part part_step (Expr-F.Step axis test predicates)

pub part_of-AttributeStep : (test : NodeTest) (predicates : Vec Expr Global) → part_of (expr.AttributeStep test predicates) ≡ record { written = Other; level = 15; nesting = predicates_nesting (map part_of predicates.items); fits = λ scope. all_fit scope (map part_of predicates.items) }
unfolding part_of roll-Expr denote.Hole.Carrier.roll
part_of-AttributeStep test predicates = fold-roll-Expr Part part_step (Expr-F.AttributeStep test predicates)

pub part_of-Filter : (primary : Box Expr Global) (predicates : Vec Expr Global) → part_of (expr.Filter primary predicates) ≡ record { written = Other; level = 15; nesting = max (operand 16 (part_of primary.value)) (predicates_nesting (map part_of predicates.items)); fits = λ scope. operated_fits scope (part_of primary.value) (map part_of predicates.items) }
unfolding part_of roll-Expr denote.Hole.Carrier.roll
part_of-Filter primary predicates = fold-roll-Expr Part part_step (Expr-F.Filter primary predicates)

pub part_of-Integer : (value : Option ℤ) → part_of (expr.Integer value) ≡ record { written = Number; level = 16; nesting = 0; fits = λ scope. is_digits value }
unfolding part_of roll-Expr denote.Hole.Carrier.roll
part_of-Integer value = fold-roll-Expr Part part_step (Expr-F.Integer value)

pub part_of-String : (text : List ℕ) → part_of (expr.String text) ≡ record { written = Literal text; level = 16; nesting = 0; fits = λ scope. true }
unfolding part_of roll-Expr denote.Hole.Carrier.roll
part_of-String text = fold-roll-Expr Part part_step (Expr-F.String text)

pub part_of-Variable : (name : List ℕ) → part_of (expr.Variable name) ≡ record { written = Name name; level = 16; nesting = 0; fits = λ scope. is_among name scope.bound || is_among name scope.given }
unfolding part_of roll-Expr denote.Hole.Carrier.roll
part_of-Variable name = fold-roll-Expr Part part_step (Expr-F.Variable name)

pub part_of-ContextItem : part_of expr.ContextItem ≡ record { written = Other; level = 16; nesting = 0; fits = λ scope. true }
unfolding part_of roll-Expr denote.Hole.Carrier.roll
part_of-ContextItem = fold-roll-Expr Part part_step Expr-F.ContextItem

pub part_of-Call : (function : Function) (arguments : Vec Expr Global) → part_of (expr.Call function arguments) ≡ record { written = Other; level = 16; nesting = 1 + operands 1 (map part_of arguments.items); fits = λ scope. takes function (length (map part_of arguments.items)) && arguments_fit function scope (map (λ argument. argument.written) (map part_of arguments.items)) && all_fit scope (map part_of arguments.items) }
unfolding part_of roll-Expr denote.Hole.Carrier.roll
part_of-Call function arguments = fold-roll-Expr Part part_step (Expr-F.Call function arguments)

pub part_of-PmdCall : (function : PmdFunction) (arguments : Vec Expr Global) → part_of (expr.PmdCall function arguments) ≡ record { written = Other; level = 16; nesting = 1 + operands 1 (map part_of arguments.items); fits = λ scope. pmd_takes function (length (map part_of arguments.items)) && all_fit scope (map part_of arguments.items) }
unfolding part_of roll-Expr denote.Hole.Carrier.roll
part_of-PmdCall function arguments = fold-roll-Expr Part part_step (Expr-F.PmdCall function arguments)

-- the equations, for the proofs of what reads or makes expressions
pub ruleset expression_forms = (part_of-Comma, part_of-For, part_of-Let, part_of-Quantified, part_of-If, part_of-Or, part_of-And, part_of-Comparison, part_of-Concatenation, part_of-Range, part_of-Additive, part_of-Multiplicative, part_of-Union, part_of-IntersectExcept, part_of-Unary, part_of-SimpleMap, part_of-Path, part_of-Root, part_of-Step, part_of-AttributeStep, part_of-Filter, part_of-Integer, part_of-String, part_of-Variable, part_of-ContextItem, part_of-Call, part_of-PmdCall)
