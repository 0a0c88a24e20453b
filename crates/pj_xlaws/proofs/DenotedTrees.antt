-- What an expression denotes is told by its tree.
use Rattle.std.proofs.Common.{◌≡◌, sym, ap, ◌∙◌, List, [], ◌∷◌, ◌++◌, map, Option}
use Rattle.std.specs.Prelude.{if◌then◌else◌}
use Rattle.pj_tree.specs.declared.node.Node.{Node}
use Rattle.pj_xaxes.specs.Axes.{is_reverse}
use Rattle.pj_xaxes.specs.Order.{ordered}
use Rattle.pj_xsteps.specs.Arithmetic.{signed, range, literal, number_items}
use Rattle.pj_xsteps.specs.Bindings.{for_in, quantified, let_in}
use Rattle.pj_xsteps.specs.Calls.{call, pmd_call}
use Rattle.pj_xsteps.specs.Context.{Around, Denotation, value_of_variable}
use Rattle.pj_xsteps.specs.Denotes.{here, behind, with_text, with_nodes, with_term, with_factor, with_set, arguments_of, step, denotes}
use Rattle.pj_xsteps.specs.Means.{Means, give, judged, ◌>>=◌, chain, decided, one_boolean}
use Rattle.pj_xsteps.specs.Operands.{with_values, operand, only_nodes}
use Rattle.pj_xsteps.specs.Steps.{stepped, in_document_order, attributes, from_node}
use Rattle.pj_xsteps.specs.Turns.{narrowed, path, simple_map, with_all}
use Rattle.pj_xexpressions.specs.Trees as tree
use Rattle.pj_xexpressions.specs.Trees.{Construct, Tree, tree_step, tree_of}
use Rattle.pj_xvalue.specs.Boolean.{effective_boolean}
use Rattle.pj_xvalue.specs.Comparison.{general_comparison}
use Rattle.pj_xvalue.specs.Items.{ItemValue, Document, String}
use Rattle.pj_xexpressions.specs.declared.expr.Expr.{Expr}
use Rattle.pj_xexpressions.specs.declared.expr.Expr.TheOpen.{Expr-F}
use Rattle.pj_xexpressions.specs.declared.expr.Expr.TheFolds.{map-Expr}
use Rattle.pj_xexpressions.specs.declared.operator.Quantifier.TheVariants as quantifier
use Rattle.pj_xexpressions.specs.declared.pmd_function.PmdFunction.{PmdFunction}
use Rattle.pj_xexpressions.specs.TreeFolds.{fold_tree, fold_node, fold_by_tree, first, rest, bound, behind_all, bound_is, body_is, operands_are}

abbrev pub nothing : Denotation
nothing context variables = give []

abbrev pub one : List Denotation → Denotation
one ds = first nothing ds

abbrev pub two : List Denotation → Denotation
two ds = first nothing (rest ds)

abbrev pub three : List Denotation → Denotation
three ds = first nothing (rest (rest ds))

module _ (around : Around) (reply : PmdFunction → Option Node → List (List ItemValue) → Means (List ItemValue)) where
  -- what a construct denotes, by what its parts denote
  abbrev pub by : Construct → List Denotation → Denotation
  by tree.Comma ds c v = chain (here c v) with_all ds []
  by (tree.For names) ds c v = for_in (bound names ds) (behind_all nothing names ds) c v
  by (tree.Let names) ds c v = let_in (bound names ds) (behind_all nothing names ds) c v
  by (tree.Quantified q names) ds c v = quantified q (bound names ds) (behind_all nothing names ds) c v
  by tree.If ds c v = one ds c v >>= λ value. judged (effective_boolean value) >>= λ truth. if truth then two ds c v else three ds c v
  by tree.Or ds c v = decided quantifier.Some (here c v) ds
  by tree.And ds c v = decided quantifier.Every (here c v) ds
  by (tree.Comparison op) ds c v = one ds c v >>= λ xs. two ds c v >>= λ ys. judged (general_comparison op (with_values around xs) (with_values around ys)) >>= λ truth. give (one_boolean truth)
  by tree.Concatenation ds c v = chain (here c v) (with_text around) ds [] >>= λ text. give (String text ∷ [])
  by tree.Range ds c v = one ds c v >>= λ xs. judged (operand around xs) >>= λ a. two ds c v >>= λ ys. judged (operand around ys) >>= λ b. give (range a b)
  by (tree.Additive' operators) ds c v = one ds c v >>= λ value. judged (operand around value) >>= λ term. chain (behind c v) (with_term around) (bound operators (rest ds)) term >>= λ total. give (number_items total)
  by (tree.Multiplicative' operators) ds c v = one ds c v >>= λ value. judged (operand around value) >>= λ factor. chain (behind c v) (with_factor around) (bound operators (rest ds)) factor >>= λ total. give (number_items total)
  by tree.Union ds c v = chain (here c v) with_nodes ds [] >>= λ found. give (ordered found)
  by (tree.IntersectExcept operators) ds c v = one ds c v >>= λ value. judged (only_nodes value) >>= λ nodes. chain (behind c v) with_set (bound operators (rest ds)) nodes
  by (tree.Unary sign) ds c v = one ds c v >>= λ value. judged (operand around value) >>= λ number. judged (signed sign number) >>= λ result. give (number_items result)
  by tree.SimpleMap ds c v = simple_map ds c v
  by tree.Path ds c v = path ds c v
  by tree.Root ds c v = from_node c.item (give (Document ∷ []))
  by (tree.Step axis test) ds c v = from_node c.item (narrowed v ds (stepped around.tree axis test c.item) >>= λ found. give (in_document_order (is_reverse axis) found))
  by (tree.AttributeStep test) ds c v = from_node c.item (narrowed v ds (attributes around test c.item))
  by tree.Filter ds c v = one ds c v >>= λ items. narrowed v (rest ds) items
  by (tree.Integer value) ds c v = judged (literal value)
  by (tree.String text) ds c v = give (String text ∷ [])
  by (tree.Variable name) ds c v = give (value_of_variable name v)
  by tree.ContextItem ds c v = give (c.item ∷ [])
  by (tree.Call function) ds c v = arguments_of ds c v >>= λ values. judged (call around function c values)
  by (tree.PmdCall function) ds c v = arguments_of ds c v >>= λ values. pmd_call reply function c values

  abbrev pub of_tree : Tree → Denotation
  of_tree = fold_tree by

  layers : (layer : Expr-F Tree) → step around reply (map-Expr Tree Denotation of_tree layer) ≡ of_tree (tree_step layer)
  layers (Expr-F.Comma parts) = sym (fold_node by tree.Comma parts.items)
  layers (Expr-F.For bindings body) =
      (λ i c v. for_in (bound_is of_tree bindings.items body.value i) (body_is nothing of_tree bindings.items body.value i) c v) ∙ sym (fold_node by (tree.For (map (λ b. b.0) bindings.items)) (map (λ b. b.1) bindings.items ++ body.value ∷ []))
  layers (Expr-F.Let bindings body) =
      (λ i c v. let_in (bound_is of_tree bindings.items body.value i) (body_is nothing of_tree bindings.items body.value i) c v) ∙ sym (fold_node by (tree.Let (map (λ b. b.0) bindings.items)) (map (λ b. b.1) bindings.items ++ body.value ∷ []))
  layers (Expr-F.Quantified q bindings test) =
      (λ i c v. quantified q (bound_is of_tree bindings.items test.value i) (body_is nothing of_tree bindings.items test.value i) c v) ∙ sym (fold_node by (tree.Quantified q (map (λ b. b.0) bindings.items)) (map (λ b. b.1) bindings.items ++ test.value ∷ []))
  layers (Expr-F.If test chosen other) = sym (fold_node by tree.If (test.value ∷ chosen.value ∷ other.value ∷ []))
  layers (Expr-F.Or parts) = sym (fold_node by tree.Or parts.items)
  layers (Expr-F.And parts) = sym (fold_node by tree.And parts.items)
  layers (Expr-F.Comparison op left right) = sym (fold_node by (tree.Comparison op) (left.value ∷ right.value ∷ []))
  layers (Expr-F.Concatenation parts) = sym (fold_node by tree.Concatenation parts.items)
  layers (Expr-F.Range from to) = sym (fold_node by tree.Range (from.value ∷ to.value ∷ []))
  layers (Expr-F.Additive a more) =
      (λ i c v. of_tree a.value c v >>= λ value. judged (operand around value) >>= λ term. chain (behind c v) (with_term around) (operands_are of_tree more.items i) term >>= λ total. give (number_items total))
      ∙ sym (fold_node by (tree.Additive' (map (λ b. b.0) more.items)) (a.value ∷ map (λ b. b.1) more.items))
  layers (Expr-F.Multiplicative a more) =
      (λ i c v. of_tree a.value c v >>= λ value. judged (operand around value) >>= λ factor. chain (behind c v) (with_factor around) (operands_are of_tree more.items i) factor >>= λ total. give (number_items total))
      ∙ sym (fold_node by (tree.Multiplicative' (map (λ b. b.0) more.items)) (a.value ∷ map (λ b. b.1) more.items))
  layers (Expr-F.Union parts) = sym (fold_node by tree.Union parts.items)
  layers (Expr-F.IntersectExcept a more) =
      (λ i c v. of_tree a.value c v >>= λ value. judged (only_nodes value) >>= λ nodes. chain (behind c v) with_set (operands_are of_tree more.items i) nodes)
      ∙ sym (fold_node by (tree.IntersectExcept (map (λ b. b.0) more.items)) (a.value ∷ map (λ b. b.1) more.items))
  layers (Expr-F.Unary sign part) = sym (fold_node by (tree.Unary sign) (part.value ∷ []))
  layers (Expr-F.SimpleMap parts) = sym (fold_node by tree.SimpleMap parts.items)
  layers (Expr-F.Path steps) = sym (fold_node by tree.Path steps.items)
  layers Expr-F.Root = sym (fold_node by tree.Root [])
  layers (Expr-F.Step axis test predicates) = sym (fold_node by (tree.Step axis test) predicates.items)
  layers (Expr-F.AttributeStep test predicates) = sym (fold_node by (tree.AttributeStep test) predicates.items)
  layers (Expr-F.Filter primary predicates) = sym (fold_node by tree.Filter (primary.value ∷ predicates.items))
  layers (Expr-F.Integer value) = sym (fold_node by (tree.Integer value) [])
  layers (Expr-F.String text) = sym (fold_node by (tree.String text) [])
  layers (Expr-F.Variable name) = sym (fold_node by (tree.Variable name) [])
  layers Expr-F.ContextItem = sym (fold_node by tree.ContextItem [])
  layers (Expr-F.Call function arguments) = sym (fold_node by (tree.Call function) arguments.items)
  layers (Expr-F.PmdCall function arguments) = sym (fold_node by (tree.PmdCall function) arguments.items)

  pub denotes_tree : (e : Expr) → denotes around reply e ≡ of_tree (tree_of e)
  unfolding denotes
  denotes_tree e = fold_by_tree (step around reply) by layers e

  pub denotes_by_tree : (a b : Expr) → tree_of a ≡ tree_of b → denotes around reply a ≡ denotes around reply b
  denotes_by_tree a b same = denotes_tree a ∙ ap of_tree same ∙ sym (denotes_tree b)
