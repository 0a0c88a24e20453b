-- What each form of an expression is, by what its parts are.
use Rattle.std.proofs.Common.{◌≡◌, ℕ, ℤ, List, [], ◌∷◌, map, Option, Vec, Box, Global}
use Rattle.pj_xexpressions.specs.declared.axis.Axis.{Axis}
use Rattle.pj_xexpressions.specs.declared.function.Function.{Function}
use Rattle.pj_xexpressions.specs.declared.operator.Compare.{Compare}
use Rattle.pj_xexpressions.specs.declared.pmd_function.PmdFunction.{PmdFunction}
use Rattle.pj_xexpressions.specs.declared.operator.Additive.{Additive}
use Rattle.pj_xexpressions.specs.declared.operator.Multiplicative.{Multiplicative}
use Rattle.pj_xexpressions.specs.declared.expr.NodeTest.{NodeTest}
use Rattle.pj_xexpressions.specs.declared.operator.Quantifier.{Quantifier}
use Rattle.pj_xexpressions.specs.declared.operator.SetOperator.{SetOperator}
use Rattle.pj_xexpressions.specs.declared.operator.Sign.{Sign}
use Rattle.pj_xexpressions.specs.declared.expr.Expr.{Expr}
use Rattle.pj_xexpressions.specs.declared.expr.Expr.TheOpen.{Expr-F}
use Rattle.pj_xexpressions.specs.declared.expr.Expr.TheVariants as expr
use Rattle.pj_xexpressions.specs.declared.expr.Expr.TheViews.{roll-Expr}
use Rattle.pj_xexpressions.specs.declared.expr.Expr.TheFolds.{fold-roll-Expr}
use Rattle.pj_xexpressions.specs.Trees.{Tree, Comma, For, Let, Quantified, If, Or, And, Comparison, Concatenation, Range, Additive', Multiplicative', Union, IntersectExcept, Unary, SimpleMap, Path, Root, Step, AttributeStep, Filter, Integer, String, Variable, ContextItem, Call, PmdCall, node, alone, binder, operated, tree_step, tree_of}
use Rattle.pj_xreadings.specs.Seen.{behind_of}

pub tree_of_comma : (parts : Vec Expr Global) → tree_of (expr.Comma parts) ≡ node Comma (map tree_of parts.items)
unfolding tree_of roll-Expr denote.Hole.Carrier.roll
tree_of_comma parts = fold-roll-Expr Tree tree_step (Expr-F.Comma parts)

pub tree_of_for : (variables : Vec (List ℕ × Expr) Global) (body : Box Expr Global) → tree_of (expr.For variables body) ≡ binder For (map behind_of variables.items) (tree_of body.value)
unfolding tree_of roll-Expr denote.Hole.Carrier.roll
tree_of_for variables body = fold-roll-Expr Tree tree_step (Expr-F.For variables body)

pub tree_of_let : (variables : Vec (List ℕ × Expr) Global) (body : Box Expr Global) → tree_of (expr.Let variables body) ≡ binder Let (map behind_of variables.items) (tree_of body.value)
unfolding tree_of roll-Expr denote.Hole.Carrier.roll
tree_of_let variables body = fold-roll-Expr Tree tree_step (Expr-F.Let variables body)

pub tree_of_quantified : (quantifier : Quantifier) (variables : Vec (List ℕ × Expr) Global) (body : Box Expr Global) → tree_of (expr.Quantified quantifier variables body) ≡ binder (Quantified quantifier) (map behind_of variables.items) (tree_of body.value)
unfolding tree_of roll-Expr denote.Hole.Carrier.roll
tree_of_quantified quantifier variables body = fold-roll-Expr Tree tree_step (Expr-F.Quantified quantifier variables body)

pub tree_of_if : (test chosen other : Box Expr Global) → tree_of (expr.If test chosen other) ≡ node If (tree_of test.value ∷ tree_of chosen.value ∷ tree_of other.value ∷ [])
unfolding tree_of roll-Expr denote.Hole.Carrier.roll
tree_of_if test chosen other = fold-roll-Expr Tree tree_step (Expr-F.If test chosen other)

pub tree_of_or : (parts : Vec Expr Global) → tree_of (expr.Or parts) ≡ node Or (map tree_of parts.items)
unfolding tree_of roll-Expr denote.Hole.Carrier.roll
tree_of_or parts = fold-roll-Expr Tree tree_step (Expr-F.Or parts)

pub tree_of_and : (parts : Vec Expr Global) → tree_of (expr.And parts) ≡ node And (map tree_of parts.items)
unfolding tree_of roll-Expr denote.Hole.Carrier.roll
tree_of_and parts = fold-roll-Expr Tree tree_step (Expr-F.And parts)

pub tree_of_comparison : (op : Compare) (left right : Box Expr Global) → tree_of (expr.Comparison op left right) ≡ node (Comparison op) (tree_of left.value ∷ tree_of right.value ∷ [])
unfolding tree_of roll-Expr denote.Hole.Carrier.roll
tree_of_comparison op left right = fold-roll-Expr Tree tree_step (Expr-F.Comparison op left right)

pub tree_of_concatenation : (parts : Vec Expr Global) → tree_of (expr.Concatenation parts) ≡ node Concatenation (map tree_of parts.items)
unfolding tree_of roll-Expr denote.Hole.Carrier.roll
tree_of_concatenation parts = fold-roll-Expr Tree tree_step (Expr-F.Concatenation parts)

pub tree_of_range : (from to : Box Expr Global) → tree_of (expr.Range from to) ≡ node Range (tree_of from.value ∷ tree_of to.value ∷ [])
unfolding tree_of roll-Expr denote.Hole.Carrier.roll
tree_of_range from to = fold-roll-Expr Tree tree_step (Expr-F.Range from to)

pub tree_of_additive : (first : Box Expr Global) (rest : Vec (Additive × Expr) Global) → tree_of (expr.Additive first rest) ≡ operated Additive' (tree_of first.value) (map behind_of rest.items)
unfolding tree_of roll-Expr denote.Hole.Carrier.roll
tree_of_additive first rest = fold-roll-Expr Tree tree_step (Expr-F.Additive first rest)

pub tree_of_multiplicative : (first : Box Expr Global) (rest : Vec (Multiplicative × Expr) Global) → tree_of (expr.Multiplicative first rest) ≡ operated Multiplicative' (tree_of first.value) (map behind_of rest.items)
unfolding tree_of roll-Expr denote.Hole.Carrier.roll
tree_of_multiplicative first rest = fold-roll-Expr Tree tree_step (Expr-F.Multiplicative first rest)

pub tree_of_union : (parts : Vec Expr Global) → tree_of (expr.Union parts) ≡ node Union (map tree_of parts.items)
unfolding tree_of roll-Expr denote.Hole.Carrier.roll
tree_of_union parts = fold-roll-Expr Tree tree_step (Expr-F.Union parts)

pub tree_of_intersect_except : (first : Box Expr Global) (rest : Vec (SetOperator × Expr) Global) → tree_of (expr.IntersectExcept first rest) ≡ operated IntersectExcept (tree_of first.value) (map behind_of rest.items)
unfolding tree_of roll-Expr denote.Hole.Carrier.roll
tree_of_intersect_except first rest = fold-roll-Expr Tree tree_step (Expr-F.IntersectExcept first rest)

pub tree_of_unary : (sign : Sign) (part : Box Expr Global) → tree_of (expr.Unary sign part) ≡ node (Unary sign) (tree_of part.value ∷ [])
unfolding tree_of roll-Expr denote.Hole.Carrier.roll
tree_of_unary sign part = fold-roll-Expr Tree tree_step (Expr-F.Unary sign part)

pub tree_of_simple_map : (parts : Vec Expr Global) → tree_of (expr.SimpleMap parts) ≡ node SimpleMap (map tree_of parts.items)
unfolding tree_of roll-Expr denote.Hole.Carrier.roll
tree_of_simple_map parts = fold-roll-Expr Tree tree_step (Expr-F.SimpleMap parts)

pub tree_of_path : (steps : Vec Expr Global) → tree_of (expr.Path steps) ≡ node Path (map tree_of steps.items)
unfolding tree_of roll-Expr denote.Hole.Carrier.roll
tree_of_path steps = fold-roll-Expr Tree tree_step (Expr-F.Path steps)

pub tree_of_root : tree_of (expr.Root) ≡ alone Root
unfolding tree_of roll-Expr denote.Hole.Carrier.roll
tree_of_root = fold-roll-Expr Tree tree_step (Expr-F.Root)

pub tree_of_step : (axis : Axis) (test : NodeTest) (predicates : Vec Expr Global) → tree_of (expr.Step axis test predicates) ≡ node (Step axis test) (map tree_of predicates.items)
unfolding tree_of roll-Expr denote.Hole.Carrier.roll
tree_of_step axis test predicates = fold-roll-Expr Tree tree_step (Expr-F.Step axis test predicates)

pub tree_of_attribute_step : (test : NodeTest) (predicates : Vec Expr Global) → tree_of (expr.AttributeStep test predicates) ≡ node (AttributeStep test) (map tree_of predicates.items)
unfolding tree_of roll-Expr denote.Hole.Carrier.roll
tree_of_attribute_step test predicates = fold-roll-Expr Tree tree_step (Expr-F.AttributeStep test predicates)

pub tree_of_filter : (primary : Box Expr Global) (predicates : Vec Expr Global) → tree_of (expr.Filter primary predicates) ≡ node Filter (tree_of primary.value ∷ map tree_of predicates.items)
unfolding tree_of roll-Expr denote.Hole.Carrier.roll
tree_of_filter primary predicates = fold-roll-Expr Tree tree_step (Expr-F.Filter primary predicates)

pub tree_of_integer : (value : Option ℤ) → tree_of (expr.Integer value) ≡ alone (Integer value)
unfolding tree_of roll-Expr denote.Hole.Carrier.roll
tree_of_integer value = fold-roll-Expr Tree tree_step (Expr-F.Integer value)

pub tree_of_string : (text : List ℕ) → tree_of (expr.String text) ≡ alone (String text)
unfolding tree_of roll-Expr denote.Hole.Carrier.roll
tree_of_string text = fold-roll-Expr Tree tree_step (Expr-F.String text)

pub tree_of_variable : (name : List ℕ) → tree_of (expr.Variable name) ≡ alone (Variable name)
unfolding tree_of roll-Expr denote.Hole.Carrier.roll
tree_of_variable name = fold-roll-Expr Tree tree_step (Expr-F.Variable name)

pub tree_of_context_item : tree_of (expr.ContextItem) ≡ alone ContextItem
unfolding tree_of roll-Expr denote.Hole.Carrier.roll
tree_of_context_item = fold-roll-Expr Tree tree_step (Expr-F.ContextItem)

pub tree_of_call : (function : Function) (arguments : Vec Expr Global) → tree_of (expr.Call function arguments) ≡ node (Call function) (map tree_of arguments.items)
unfolding tree_of roll-Expr denote.Hole.Carrier.roll
tree_of_call function arguments = fold-roll-Expr Tree tree_step (Expr-F.Call function arguments)

pub tree_of_pmd_call : (function : PmdFunction) (arguments : Vec Expr Global) → tree_of (expr.PmdCall function arguments) ≡ node (PmdCall function) (map tree_of arguments.items)
unfolding tree_of roll-Expr denote.Hole.Carrier.roll
tree_of_pmd_call function arguments = fold-roll-Expr Tree tree_step (Expr-F.PmdCall function arguments)

-- the equations, for the proofs of what makes expressions
pub ruleset tree_forms = (tree_of_comma, tree_of_for, tree_of_let, tree_of_quantified, tree_of_if, tree_of_or, tree_of_and, tree_of_comparison, tree_of_concatenation, tree_of_range, tree_of_additive, tree_of_multiplicative, tree_of_union, tree_of_intersect_except, tree_of_unary, tree_of_simple_map, tree_of_path, tree_of_root, tree_of_step, tree_of_attribute_step, tree_of_filter, tree_of_integer, tree_of_string, tree_of_variable, tree_of_context_item, tree_of_call, tree_of_pmd_call)
