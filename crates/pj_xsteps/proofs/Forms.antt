-- What each form of an expression denotes, by what its parts denote.
use Rattle.std.proofs.Common.{◌≡◌, ℕ, ℤ, List, [], ◌∷◌, Vec, Box, Global, map, Option, ap}
use Rattle.std.specs.Prelude.{if◌then◌else◌}
use Rattle.pj_tree.specs.declared.node.Node.{Node}
use Rattle.pj_xexpressions.specs.declared.axis.Axis.{Axis}
use Rattle.pj_xexpressions.specs.declared.operator.Compare.{Compare}
use Rattle.pj_xexpressions.specs.declared.function.Function.{Function}
use Rattle.pj_xexpressions.specs.declared.pmd_function.PmdFunction.{PmdFunction}
use Rattle.pj_xexpressions.specs.declared.operator.Additive.{Additive}
use Rattle.pj_xexpressions.specs.declared.operator.Multiplicative.{Multiplicative}
use Rattle.pj_xexpressions.specs.declared.operator.SetOperator.{SetOperator}
use Rattle.pj_xexpressions.specs.declared.operator.Sign.{Sign}
use Rattle.pj_xexpressions.specs.declared.expr.NodeTest.{NodeTest}
use Rattle.pj_xexpressions.specs.declared.operator.Quantifier.{Quantifier}
use Rattle.pj_xexpressions.specs.declared.operator.Quantifier.TheVariants as quantifier
use Rattle.pj_xexpressions.specs.declared.expr.Expr.{Expr}
use Rattle.pj_xexpressions.specs.declared.expr.Expr.TheOpen.{Expr-F}
use Rattle.pj_xexpressions.specs.declared.expr.Expr.TheVariants as expr
use Rattle.pj_xexpressions.specs.declared.expr.Expr.TheViews.{roll-Expr}
use Rattle.pj_xexpressions.specs.declared.expr.Expr.TheFolds.{fold-roll-Expr}
use Rattle.pj_xvalue.specs.Boolean.{effective_boolean}
use Rattle.pj_xvalue.specs.Items.{ItemValue, Document, String}
use Rattle.pj_xvalue.specs.Comparison.{general_comparison}
use Rattle.pj_xaxes.specs.Order.{ordered}
use Rattle.pj_xaxes.specs.Axes.{is_reverse}
use Rattle.pj_xsteps.specs.Means.{Means, give, judged, ◌>>=◌, chain, decided, one_boolean}
use Rattle.pj_xsteps.specs.Context.{Around, Context, Variables, Denotation, value_of_variable}
use Rattle.pj_xsteps.specs.Operands.{with_values, operand, only_nodes}
use Rattle.pj_xsteps.specs.Arithmetic.{signed, range, literal, number_items}
use Rattle.pj_xsteps.specs.Turns.{narrowed, path, simple_map, with_all}
use Rattle.pj_xsteps.specs.Steps.{stepped, in_document_order, attributes, from_node}
use Rattle.pj_xsteps.specs.Bindings.{for_in, quantified, let_in}
use Rattle.pj_xsteps.specs.Calls.{call, pmd_call}
use Rattle.pj_xsteps.specs.Parts.{bindings_of, operated_by}
use Rattle.pj_xsteps.specs.Denotes.{here, behind, with_text, with_nodes, with_term, with_factor, with_set, arguments_of, step, denotes}

module _ (around : Around) (reply : PmdFunction → Option Node → List (List ItemValue) → Means (List ItemValue)) (c : Context) (v : Variables) where
  pub denotes_comma : (parts : Vec Expr Global) → denotes around reply (expr.Comma parts) c v ≡ (chain (here c v) with_all (map (denotes around reply) parts.items) [])
  unfolding denotes roll-Expr denote.Hole.Carrier.roll
  denotes_comma parts = ap (λ (d : Denotation). d c v) (fold-roll-Expr Denotation (step around reply) (Expr-F.Comma parts))

  pub denotes_for : (bindings : Vec (List ℕ × Expr) Global) (body : Box Expr Global) → denotes around reply (expr.For bindings body) c v ≡ (for_in (bindings_of (denotes around reply) bindings.items) (denotes around reply body.value) c v)
  unfolding denotes roll-Expr denote.Hole.Carrier.roll
  denotes_for bindings body = ap (λ (d : Denotation). d c v) (fold-roll-Expr Denotation (step around reply) (Expr-F.For bindings body))

  pub denotes_let : (bindings : Vec (List ℕ × Expr) Global) (body : Box Expr Global) → denotes around reply (expr.Let bindings body) c v ≡ (let_in (bindings_of (denotes around reply) bindings.items) (denotes around reply body.value) c v)
  unfolding denotes roll-Expr denote.Hole.Carrier.roll
  denotes_let bindings body = ap (λ (d : Denotation). d c v) (fold-roll-Expr Denotation (step around reply) (Expr-F.Let bindings body))

  pub denotes_quantified : (q : Quantifier) (bindings : Vec (List ℕ × Expr) Global) (body : Box Expr Global) → denotes around reply (expr.Quantified q bindings body) c v ≡ (quantified q (bindings_of (denotes around reply) bindings.items) (denotes around reply body.value) c v)
  unfolding denotes roll-Expr denote.Hole.Carrier.roll
  denotes_quantified q bindings body = ap (λ (d : Denotation). d c v) (fold-roll-Expr Denotation (step around reply) (Expr-F.Quantified q bindings body))

  pub denotes_if : (t x y : Box Expr Global) → denotes around reply (expr.If t x y) c v ≡ (denotes around reply t.value c v >>= λ value. judged (effective_boolean value) >>= λ truth. if truth then denotes around reply x.value c v else denotes around reply y.value c v)
  unfolding denotes roll-Expr denote.Hole.Carrier.roll
  denotes_if t x y = ap (λ (d : Denotation). d c v) (fold-roll-Expr Denotation (step around reply) (Expr-F.If t x y))

  pub denotes_or : (parts : Vec Expr Global) → denotes around reply (expr.Or parts) c v ≡ (decided quantifier.Some (here c v) (map (denotes around reply) parts.items))
  unfolding denotes roll-Expr denote.Hole.Carrier.roll
  denotes_or parts = ap (λ (d : Denotation). d c v) (fold-roll-Expr Denotation (step around reply) (Expr-F.Or parts))

  pub denotes_and : (parts : Vec Expr Global) → denotes around reply (expr.And parts) c v ≡ (decided quantifier.Every (here c v) (map (denotes around reply) parts.items))
  unfolding denotes roll-Expr denote.Hole.Carrier.roll
  denotes_and parts = ap (λ (d : Denotation). d c v) (fold-roll-Expr Denotation (step around reply) (Expr-F.And parts))

  pub denotes_comparison : (op : Compare) (x y : Box Expr Global) → denotes around reply (expr.Comparison op x y) c v ≡ (denotes around reply x.value c v >>= λ xs. denotes around reply y.value c v >>= λ ys. judged (general_comparison op (with_values around xs) (with_values around ys)) >>= λ truth. give (one_boolean truth))
  unfolding denotes roll-Expr denote.Hole.Carrier.roll
  denotes_comparison op x y = ap (λ (d : Denotation). d c v) (fold-roll-Expr Denotation (step around reply) (Expr-F.Comparison op x y))

  pub denotes_concatenation : (parts : Vec Expr Global) → denotes around reply (expr.Concatenation parts) c v ≡ (chain (here c v) (with_text around) (map (denotes around reply) parts.items) [] >>= λ text. give (String text ∷ []))
  unfolding denotes roll-Expr denote.Hole.Carrier.roll
  denotes_concatenation parts = ap (λ (d : Denotation). d c v) (fold-roll-Expr Denotation (step around reply) (Expr-F.Concatenation parts))

  pub denotes_range : (x y : Box Expr Global) → denotes around reply (expr.Range x y) c v ≡ (denotes around reply x.value c v >>= λ xs. judged (operand around xs) >>= λ a. denotes around reply y.value c v >>= λ ys. judged (operand around ys) >>= λ b. give (range a b))
  unfolding denotes roll-Expr denote.Hole.Carrier.roll
  denotes_range x y = ap (λ (d : Denotation). d c v) (fold-roll-Expr Denotation (step around reply) (Expr-F.Range x y))

  pub denotes_additive : (x : Box Expr Global) (rest : Vec (Additive × Expr) Global) → denotes around reply (expr.Additive x rest) c v ≡ (denotes around reply x.value c v >>= λ value. judged (operand around value) >>= λ term. chain (behind c v) (with_term around) (operated_by (denotes around reply) rest.items) term >>= λ total. give (number_items total))
  unfolding denotes roll-Expr denote.Hole.Carrier.roll
  denotes_additive x rest = ap (λ (d : Denotation). d c v) (fold-roll-Expr Denotation (step around reply) (Expr-F.Additive x rest))

  pub denotes_multiplicative : (x : Box Expr Global) (rest : Vec (Multiplicative × Expr) Global) → denotes around reply (expr.Multiplicative x rest) c v ≡ (denotes around reply x.value c v >>= λ value. judged (operand around value) >>= λ factor. chain (behind c v) (with_factor around) (operated_by (denotes around reply) rest.items) factor >>= λ total. give (number_items total))
  unfolding denotes roll-Expr denote.Hole.Carrier.roll
  denotes_multiplicative x rest = ap (λ (d : Denotation). d c v) (fold-roll-Expr Denotation (step around reply) (Expr-F.Multiplicative x rest))

  pub denotes_union : (parts : Vec Expr Global) → denotes around reply (expr.Union parts) c v ≡ (chain (here c v) with_nodes (map (denotes around reply) parts.items) [] >>= λ found. give (ordered found))
  unfolding denotes roll-Expr denote.Hole.Carrier.roll
  denotes_union parts = ap (λ (d : Denotation). d c v) (fold-roll-Expr Denotation (step around reply) (Expr-F.Union parts))

  pub denotes_intersect : (x : Box Expr Global) (rest : Vec (SetOperator × Expr) Global) → denotes around reply (expr.IntersectExcept x rest) c v ≡ (denotes around reply x.value c v >>= λ value. judged (only_nodes value) >>= λ nodes. chain (behind c v) with_set (operated_by (denotes around reply) rest.items) nodes)
  unfolding denotes roll-Expr denote.Hole.Carrier.roll
  denotes_intersect x rest = ap (λ (d : Denotation). d c v) (fold-roll-Expr Denotation (step around reply) (Expr-F.IntersectExcept x rest))

  pub denotes_unary : (sign : Sign) (x : Box Expr Global) → denotes around reply (expr.Unary sign x) c v ≡ (denotes around reply x.value c v >>= λ value. judged (operand around value) >>= λ number. judged (signed sign number) >>= λ result. give (number_items result))
  unfolding denotes roll-Expr denote.Hole.Carrier.roll
  denotes_unary sign x = ap (λ (d : Denotation). d c v) (fold-roll-Expr Denotation (step around reply) (Expr-F.Unary sign x))

  pub denotes_map : (parts : Vec Expr Global) → denotes around reply (expr.SimpleMap parts) c v ≡ (simple_map (map (denotes around reply) parts.items) c v)
  unfolding denotes roll-Expr denote.Hole.Carrier.roll
  denotes_map parts = ap (λ (d : Denotation). d c v) (fold-roll-Expr Denotation (step around reply) (Expr-F.SimpleMap parts))

  pub denotes_path : (parts : Vec Expr Global) → denotes around reply (expr.Path parts) c v ≡ (path (map (denotes around reply) parts.items) c v)
  unfolding denotes roll-Expr denote.Hole.Carrier.roll
  denotes_path parts = ap (λ (d : Denotation). d c v) (fold-roll-Expr Denotation (step around reply) (Expr-F.Path parts))

  pub denotes_root : denotes around reply expr.Root c v ≡ (from_node c.item (give (Document ∷ [])))
  unfolding denotes roll-Expr denote.Hole.Carrier.roll
  denotes_root = ap (λ (d : Denotation). d c v) (fold-roll-Expr Denotation (step around reply) Expr-F.Root)

  pub denotes_step : (axis : Axis) (test : NodeTest) (parts : Vec Expr Global) → denotes around reply (expr.Step axis test parts) c v ≡ (from_node c.item (narrowed v (map (denotes around reply) parts.items) (stepped around.tree axis test c.item) >>= λ found. give (in_document_order (is_reverse axis) found)))
  unfolding denotes roll-Expr denote.Hole.Carrier.roll
  denotes_step axis test parts = ap (λ (d : Denotation). d c v) (fold-roll-Expr Denotation (step around reply) (Expr-F.Step axis test parts))

  pub denotes_attribute : (test : NodeTest) (parts : Vec Expr Global) → denotes around reply (expr.AttributeStep test parts) c v ≡ (from_node c.item (narrowed v (map (denotes around reply) parts.items) (attributes around test c.item)))
  unfolding denotes roll-Expr denote.Hole.Carrier.roll
  denotes_attribute test parts = ap (λ (d : Denotation). d c v) (fold-roll-Expr Denotation (step around reply) (Expr-F.AttributeStep test parts))

  pub denotes_filter : (x : Box Expr Global) (parts : Vec Expr Global) → denotes around reply (expr.Filter x parts) c v ≡ (denotes around reply x.value c v >>= λ items. narrowed v (map (denotes around reply) parts.items) items)
  unfolding denotes roll-Expr denote.Hole.Carrier.roll
  denotes_filter x parts = ap (λ (d : Denotation). d c v) (fold-roll-Expr Denotation (step around reply) (Expr-F.Filter x parts))

  pub denotes_integer : (value : Option ℤ) → denotes around reply (expr.Integer value) c v ≡ (judged (literal value))
  unfolding denotes roll-Expr denote.Hole.Carrier.roll
  denotes_integer value = ap (λ (d : Denotation). d c v) (fold-roll-Expr Denotation (step around reply) (Expr-F.Integer value))

  pub denotes_string : (text : List ℕ) → denotes around reply (expr.String text) c v ≡ (give (String text ∷ []))
  unfolding denotes roll-Expr denote.Hole.Carrier.roll
  denotes_string text = ap (λ (d : Denotation). d c v) (fold-roll-Expr Denotation (step around reply) (Expr-F.String text))

  pub denotes_variable : (name : List ℕ) → denotes around reply (expr.Variable name) c v ≡ (give (value_of_variable name v))
  unfolding denotes roll-Expr denote.Hole.Carrier.roll
  denotes_variable name = ap (λ (d : Denotation). d c v) (fold-roll-Expr Denotation (step around reply) (Expr-F.Variable name))

  pub denotes_context : denotes around reply expr.ContextItem c v ≡ (give (c.item ∷ []))
  unfolding denotes roll-Expr denote.Hole.Carrier.roll
  denotes_context = ap (λ (d : Denotation). d c v) (fold-roll-Expr Denotation (step around reply) Expr-F.ContextItem)

  pub denotes_call : (function : Function) (parts : Vec Expr Global) → denotes around reply (expr.Call function parts) c v ≡ (arguments_of (map (denotes around reply) parts.items) c v >>= λ values. judged (call around function c values))
  unfolding denotes roll-Expr denote.Hole.Carrier.roll
  denotes_call function parts = ap (λ (d : Denotation). d c v) (fold-roll-Expr Denotation (step around reply) (Expr-F.Call function parts))

  pub denotes_pmd : (function : PmdFunction) (parts : Vec Expr Global) → denotes around reply (expr.PmdCall function parts) c v ≡ (arguments_of (map (denotes around reply) parts.items) c v >>= λ values. pmd_call reply function c values)
  unfolding denotes roll-Expr denote.Hole.Carrier.roll
  denotes_pmd function parts = ap (λ (d : Denotation). d c v) (fold-roll-Expr Denotation (step around reply) (Expr-F.PmdCall function parts))

pub ruleset forms = (denotes_comma, denotes_for, denotes_let, denotes_quantified, denotes_if, denotes_or, denotes_and, denotes_comparison, denotes_concatenation, denotes_range, denotes_additive, denotes_multiplicative, denotes_union, denotes_intersect, denotes_unary, denotes_map, denotes_path, denotes_root, denotes_step, denotes_attribute, denotes_filter, denotes_integer, denotes_string, denotes_variable, denotes_context, denotes_call, denotes_pmd)
