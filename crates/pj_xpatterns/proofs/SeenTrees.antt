-- The patterns of an expression are told by its tree.
use Rattle.std.proofs.Common.{◌≡◌, sym, ap, ◌∙◌, ℕ, List, [], ◌∷◌, ◌++◌, map}
use Rattle.pj_xexpressions.specs.Trees as tree
use Rattle.pj_xexpressions.specs.Trees.{Construct, Tree, tree_step, tree_of}
use Rattle.pj_xpatterns.specs.Meaning.{Pattern}
use Rattle.pj_xpatterns.specs.Written.{Seen, Variables, of_call, of_each, of_second, patterns_in, seen_of, seen_step}
use Rattle.pj_xexpressions.specs.Expressions.{Written, Literal, Number, Name, Other}
use Rattle.pj_xexpressions.specs.declared.expr.Expr.{Expr}
use Rattle.pj_xexpressions.specs.declared.expr.Expr.TheOpen.{Expr-F}
use Rattle.pj_xexpressions.specs.declared.expr.Expr.TheFolds.{map-Expr}
use Rattle.pj_xexpressions.specs.TreeFolds.{fold_tree, fold_node, fold_by_tree, first, rest, bound, behind_all, bound_is, body_is, operands_are}

abbrev nothing : Seen
nothing = record { written = Other; patterns = [] }

abbrev one : List Seen → List Pattern
one ds = (first nothing ds).patterns

abbrev two : List Seen → List Pattern
two ds = (first nothing (rest ds)).patterns

abbrev three : List Seen → List Pattern
three ds = (first nothing (rest (rest ds))).patterns

abbrev written_by : Construct → Written
written_by (tree.String text) = Literal text
written_by (tree.Integer value) = Number
written_by (tree.Variable name) = Name name
written_by _ = Other

abbrev seen : Written → List Pattern → Seen
seen written patterns = record { written = written; patterns = patterns }

module _ (variables : Variables) where
  abbrev bound_patterns : List (List ℕ) → List Seen → List Pattern
  bound_patterns names ds = of_second (bound names ds) ++ (behind_all nothing names ds).patterns

  abbrev patterns_by : Construct → List Seen → List Pattern
  patterns_by tree.Comma ds = of_each ds
  patterns_by (tree.For names) ds = bound_patterns names ds
  patterns_by (tree.Let names) ds = bound_patterns names ds
  patterns_by (tree.Quantified q names) ds = bound_patterns names ds
  patterns_by tree.If ds = one ds ++ (two ds ++ three ds)
  patterns_by tree.Or ds = of_each ds
  patterns_by tree.And ds = of_each ds
  patterns_by (tree.Comparison op) ds = one ds ++ two ds
  patterns_by tree.Concatenation ds = of_each ds
  patterns_by tree.Range ds = one ds ++ two ds
  patterns_by (tree.Additive' operators) ds = one ds ++ of_second (bound operators (rest ds))
  patterns_by (tree.Multiplicative' operators) ds = one ds ++ of_second (bound operators (rest ds))
  patterns_by tree.Union ds = of_each ds
  patterns_by (tree.IntersectExcept operators) ds = one ds ++ of_second (bound operators (rest ds))
  patterns_by (tree.Unary sign) ds = one ds
  patterns_by tree.SimpleMap ds = of_each ds
  patterns_by tree.Path ds = of_each ds
  patterns_by tree.Root ds = []
  patterns_by (tree.Step axis test) ds = of_each ds
  patterns_by (tree.AttributeStep test) ds = of_each ds
  patterns_by tree.Filter ds = one ds ++ of_each (rest ds)
  patterns_by (tree.Integer value) ds = []
  patterns_by (tree.String text) ds = []
  patterns_by (tree.Variable name) ds = []
  patterns_by tree.ContextItem ds = []
  patterns_by (tree.Call function) ds = of_call variables function ds
  patterns_by (tree.PmdCall function) ds = of_each ds

  abbrev by : Construct → List Seen → Seen
  by construct ds = seen (written_by construct) (patterns_by construct ds)

  abbrev of_tree : Tree → Seen
  of_tree = fold_tree by

  layers : (layer : Expr-F Tree) → seen_step variables (map-Expr Tree Seen of_tree layer) ≡ of_tree (tree_step layer)
  layers (Expr-F.Comma parts) = sym (fold_node by tree.Comma parts.items)
  layers (Expr-F.For bindings body) =
      (λ i. seen Other (of_second (bound_is of_tree bindings.items body.value i) ++ (body_is nothing of_tree bindings.items body.value i).patterns)) ∙ sym (fold_node by (tree.For (map (λ b. b.0) bindings.items)) (map (λ b. b.1) bindings.items ++ body.value ∷ []))
  layers (Expr-F.Let bindings body) =
      (λ i. seen Other (of_second (bound_is of_tree bindings.items body.value i) ++ (body_is nothing of_tree bindings.items body.value i).patterns)) ∙ sym (fold_node by (tree.Let (map (λ b. b.0) bindings.items)) (map (λ b. b.1) bindings.items ++ body.value ∷ []))
  layers (Expr-F.Quantified q bindings test) =
      (λ i. seen Other (of_second (bound_is of_tree bindings.items test.value i) ++ (body_is nothing of_tree bindings.items test.value i).patterns)) ∙ sym (fold_node by (tree.Quantified q (map (λ b. b.0) bindings.items)) (map (λ b. b.1) bindings.items ++ test.value ∷ []))
  layers (Expr-F.If test chosen other) = sym (fold_node by tree.If (test.value ∷ chosen.value ∷ other.value ∷ []))
  layers (Expr-F.Or parts) = sym (fold_node by tree.Or parts.items)
  layers (Expr-F.And parts) = sym (fold_node by tree.And parts.items)
  layers (Expr-F.Comparison op left right) = sym (fold_node by (tree.Comparison op) (left.value ∷ right.value ∷ []))
  layers (Expr-F.Concatenation parts) = sym (fold_node by tree.Concatenation parts.items)
  layers (Expr-F.Range from to) = sym (fold_node by tree.Range (from.value ∷ to.value ∷ []))
  layers (Expr-F.Additive a more) =
      (λ i. seen Other ((of_tree a.value).patterns ++ of_second (operands_are of_tree more.items i))) ∙ sym (fold_node by (tree.Additive' (map (λ b. b.0) more.items)) (a.value ∷ map (λ b. b.1) more.items))
  layers (Expr-F.Multiplicative a more) =
      (λ i. seen Other ((of_tree a.value).patterns ++ of_second (operands_are of_tree more.items i))) ∙ sym (fold_node by (tree.Multiplicative' (map (λ b. b.0) more.items)) (a.value ∷ map (λ b. b.1) more.items))
  layers (Expr-F.Union parts) = sym (fold_node by tree.Union parts.items)
  layers (Expr-F.IntersectExcept a more) =
      (λ i. seen Other ((of_tree a.value).patterns ++ of_second (operands_are of_tree more.items i))) ∙ sym (fold_node by (tree.IntersectExcept (map (λ b. b.0) more.items)) (a.value ∷ map (λ b. b.1) more.items))
  layers (Expr-F.Unary sign part) = sym (fold_node by (tree.Unary sign) (part.value ∷ []))
  layers (Expr-F.SimpleMap parts) = sym (fold_node by tree.SimpleMap parts.items)
  layers (Expr-F.Path steps) = sym (fold_node by tree.Path steps.items)
  layers Expr-F.Root = sym (fold_node by tree.Root [])
  layers (Expr-F.Step axis test predicates) = sym (fold_node by (tree.Step axis test) predicates.items)
  layers (Expr-F.AttributeStep test predicates) = sym (fold_node by (tree.AttributeStep test) predicates.items)
  layers (Expr-F.Filter primary predicates) = sym (fold_node by tree.Filter (primary.value ∷ predicates.items))
  layers (Expr-F.Integer value) = sym (fold_node by (tree.Integer value) [])
  layers (Expr-F.String text) = sym (fold_node by (tree.String text) [])
  layers (Expr-F.Variable name) = sym (fold_node by (tree.Variable name) [])
  layers Expr-F.ContextItem = sym (fold_node by tree.ContextItem [])
  layers (Expr-F.Call function arguments) = sym (fold_node by (tree.Call function) arguments.items)
  layers (Expr-F.PmdCall function arguments) = sym (fold_node by (tree.PmdCall function) arguments.items)

  seen_tree : (e : Expr) → seen_of variables e ≡ of_tree (tree_of e)
  unfolding seen_of
  seen_tree e = fold_by_tree (seen_step variables) by layers e

  pub patterns_by_tree : (a b : Expr) → tree_of a ≡ tree_of b → patterns_in variables a ≡ patterns_in variables b
  patterns_by_tree a b same = ap (λ s. s.patterns) (seen_tree a ∙ ap of_tree same ∙ sym (seen_tree b))
