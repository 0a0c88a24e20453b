-- What an expression denotes: XPath 2.0 with `let`, `||` and `!` of XPath 3.1, by cases on the expression. Evaluation is from
-- left to right, and the first error is the answer.
use Rattle.std.specs.Prelude.{ℕ, ℤ, List, [], ◌∷◌, ◌++◌, Option, Result, Ok, if◌then◌else◌}
use Rattle.pj_tree.specs.declared.node.Node.{Node}
use Rattle.pj_xvalue.specs.declared.fault.XCode.{XCode}
use Rattle.pj_xexpressions.specs.declared.operator.Additive.{Additive}
use Rattle.pj_xexpressions.specs.declared.operator.Multiplicative.{Multiplicative}
use Rattle.pj_xexpressions.specs.declared.operator.SetOperator.{SetOperator}
use Rattle.pj_xexpressions.specs.declared.expr.Expr.{Expr}
use Rattle.pj_xexpressions.specs.declared.expr.Expr.TheOpen.{Expr-F}
use Rattle.pj_xexpressions.specs.declared.expr.Expr.TheFolds.{fold-Expr}
use Rattle.pj_xexpressions.specs.declared.operator.Quantifier.TheVariants as quantifier
use Rattle.pj_xexpressions.specs.declared.pmd_function.PmdFunction.{PmdFunction}
use Rattle.pj_xvalue.specs.Boolean.{effective_boolean}
use Rattle.pj_xvalue.specs.Items.{ItemValue, Document, String}
use Rattle.pj_xvalue.specs.Comparison.{general_comparison}
use Rattle.pj_xaxes.specs.Order.{ordered}
use Rattle.pj_xaxes.specs.Axes.{is_reverse}
use Rattle.pj_xvalue.specs.Arguments.{and_then}
use Rattle.pj_xsteps.specs.Means.{Means, give, judged, ◌>>=◌, chain, decided, one_boolean}
use Rattle.pj_xsteps.specs.Context.{Around, Context, Variables, Denotation, value_of_variable}
use Rattle.pj_xsteps.specs.Operands.{with_values, operand, text_operand, only_nodes}
use Rattle.pj_xsteps.specs.Arithmetic.{sum, product, signed, range, literal, number_items}
use Rattle.pj_xsteps.specs.Sets.{chosen}
use Rattle.pj_xsteps.specs.Turns.{narrowed, path, simple_map, with_all}
use Rattle.pj_xsteps.specs.Steps.{stepped, in_document_order, attributes, from_node}
use Rattle.pj_xsteps.specs.Bindings.{for_in, quantified, let_in}
use Rattle.pj_xsteps.specs.Calls.{call, pmd_call}

-- an operand in the context
abbrev pub here : Context → Variables → Denotation → Means (List ItemValue)
here context variables d = d context variables

-- an operand behind its operator
abbrev pub behind : {O : Type 0} → Context → Variables → O × Denotation → Means (List ItemValue)
behind context variables next = next.1 context variables

-- ---- what an operand's value makes of what stands before it

abbrev pub with_text : {X : Type 0} → Around → X → List ℕ → List ItemValue → Result (List ℕ) XCode
with_text around x text value = and_then (text_operand around value) (λ more. Ok (text ++ more))

abbrev pub with_nodes : {X : Type 0} → X → List ItemValue → List ItemValue → Result (List ItemValue) XCode
with_nodes x found value = and_then (only_nodes value) (λ more. Ok (found ++ more))

abbrev pub with_term : {X : Type 0} → Around → Additive × X → Option ℤ → List ItemValue → Result (Option ℤ) XCode
with_term around next total value = and_then (operand around value) (λ term. sum next.0 total term)

abbrev pub with_factor : {X : Type 0} → Around → Multiplicative × X → Option ℤ → List ItemValue → Result (Option ℤ) XCode
with_factor around next total value = and_then (operand around value) (λ factor. product next.0 total factor)

abbrev pub with_set : {X : Type 0} → SetOperator × X → List ItemValue → List ItemValue → Result (List ItemValue) XCode
with_set next items value = and_then (only_nodes value) (λ others. Ok (chosen next.0 items others))

-- the arguments before it, with an argument, which is a sequence
abbrev pub with_argument : {X : Type 0} → X → List (List ItemValue) → List ItemValue → Result (List (List ItemValue)) XCode
with_argument x arguments value = Ok (arguments ++ value ∷ [])

abbrev pub arguments_of : List Denotation → Context → Variables → Means (List (List ItemValue))
arguments_of parts context variables = chain (here context variables) with_argument parts []

module _ (around : Around) (reply : PmdFunction → Option Node → List (List ItemValue) → Means (List ItemValue)) where
  abbrev pub step : Expr-F Denotation → Denotation
  step (Expr-F.Comma parts) c v = chain (here c v) with_all parts.items []
  step (Expr-F.For bindings body) c v = for_in bindings.items body.value c v
  step (Expr-F.Let bindings body) c v = let_in bindings.items body.value c v
  step (Expr-F.Quantified quantifier bindings test) c v = quantified quantifier bindings.items test.value c v
  step (Expr-F.If test chosen other) c v = test.value c v >>= λ value. judged (effective_boolean value) >>= λ truth. if truth then chosen.value c v else other.value c v
  step (Expr-F.Or parts) c v = decided quantifier.Some (here c v) parts.items
  step (Expr-F.And parts) c v = decided quantifier.Every (here c v) parts.items
  step (Expr-F.Comparison op left right) c v =
      left.value c v >>= λ xs. right.value c v >>= λ ys. judged (general_comparison op (with_values around xs) (with_values around ys)) >>= λ truth. give (one_boolean truth)
  step (Expr-F.Concatenation parts) c v = chain (here c v) (with_text around) parts.items [] >>= λ text. give (String text ∷ [])
  step (Expr-F.Range from to) c v =
      from.value c v >>= λ xs. judged (operand around xs) >>= λ a. to.value c v >>= λ ys. judged (operand around ys) >>= λ b. give (range a b)
  step (Expr-F.Additive first rest) c v =
      first.value c v >>= λ value. judged (operand around value) >>= λ term. chain (behind c v) (with_term around) rest.items term >>= λ total. give (number_items total)
  step (Expr-F.Multiplicative first rest) c v =
      first.value c v >>= λ value. judged (operand around value) >>= λ factor. chain (behind c v) (with_factor around) rest.items factor >>= λ total. give (number_items total)
  step (Expr-F.Union parts) c v = chain (here c v) with_nodes parts.items [] >>= λ found. give (ordered found)
  step (Expr-F.IntersectExcept first rest) c v = first.value c v >>= λ value. judged (only_nodes value) >>= λ nodes. chain (behind c v) with_set rest.items nodes
  step (Expr-F.Unary sign operator) c v = operator.value c v >>= λ value. judged (operand around value) >>= λ number. judged (signed sign number) >>= λ result. give (number_items result)
  step (Expr-F.SimpleMap parts) c v = simple_map parts.items c v
  step (Expr-F.Path steps) c v = path steps.items c v
  step Expr-F.Root c v = from_node c.item (give (Document ∷ []))
  step (Expr-F.Step axis test predicates) c v =
      from_node c.item (narrowed v predicates.items (stepped around.tree axis test c.item) >>= λ found. give (in_document_order (is_reverse axis) found))
  step (Expr-F.AttributeStep test predicates) c v = from_node c.item (narrowed v predicates.items (attributes around test c.item))
  step (Expr-F.Filter primary predicates) c v = primary.value c v >>= λ items. narrowed v predicates.items items
  step (Expr-F.Integer value) c v = judged (literal value)
  step (Expr-F.String text) c v = give (String text ∷ [])
  step (Expr-F.Variable name) c v = give (value_of_variable name v)
  step Expr-F.ContextItem c v = give (c.item ∷ [])
  step (Expr-F.Call function arguments) c v = arguments_of arguments.items c v >>= λ values. judged (call around function c values)
  step (Expr-F.PmdCall function arguments) c v = arguments_of arguments.items c v >>= λ values. pmd_call reply function c values

  -- what the expression denotes
  unfoldable pub denotes : Expr → Denotation
  denotes = fold-Expr Denotation step
