-- What the surroundings see of one layer of an expression is what they see of the node that the layer is.
use mathlib.Core.List.{map-map}
use Rattle.std.proofs.Common.{◌≡◌, refl, sym, ap, ap₂, ◌∙◌, ℕ, ◌||◌, List, [], ◌∷◌, map, length}
use Rattle.std.proofs.lemmas.List.{length-map}
use Rattle.pj_xexpressions.specs.declared.expr.Expr.TheOpen.{Expr-F}
use Rattle.pj_xexpressions.specs.declared.expr.Expr.TheFolds.{map-Expr}
use Rattle.pj_xexpressions.specs.Among.{is_among}
use Rattle.pj_xexpressions.specs.Expressions.{Part, Number, Name, is_digits, part_step}
use Rattle.pj_xexpressions.specs.Trees as tree
use Rattle.pj_xexpressions.specs.Trees.{Tree, Construct, tree_step}
use Rattle.pj_xreadings.specs.Shapes.{part_by, part_of_tree}
use Rattle.pj_xreadings.proofs.BoundForms.{names_of, parts_of}
use Rattle.pj_xreadings.specs.Nodes.{part_of_node}
use Rattle.pj_xreadings.proofs.Seen.{seen_binder, seen_choice, seen_pair, seen_signed, seen_operated, seen_filter, seen_alone}

-- a name or an operator with what its tree is seen as
abbrev with_part : {X : Type 0} → X × Tree → X × Part
with_part item = (item.0, part_of_tree item.1)

abbrev PartOfLayer : Expr-F Tree → Type 0
PartOfLayer layer = part_step (map-Expr Tree Part part_of_tree layer) ≡ part_of_tree (tree_step layer)

names_same : (bindings : List (List ℕ × Tree)) → names_of (map with_part bindings) ≡ names_of bindings
names_same bindings = map-map (λ b. b.0) with_part bindings

parts_same : (bindings : List (List ℕ × Tree)) (body : Tree) → parts_of (map with_part bindings) (part_of_tree body) ≡ map part_of_tree (parts_of bindings body)
parts_same [] body = refl
parts_same (binding ∷ rest) body = ap (λ parts. part_of_tree binding.1 ∷ parts) (parts_same rest body)

-- a `for`, `let`, `some` or `every`
binder_as_node : (construct : List (List ℕ) → Construct) (bindings : List (List ℕ × Tree)) (body : Tree) → part_by (construct (names_of (map with_part bindings))) (parts_of (map with_part bindings) (part_of_tree body)) ≡ part_of_tree (tree.binder construct bindings body)
binder_as_node construct bindings body =
    ap₂ (λ names parts. part_by (construct names) parts) (names_same bindings) (parts_same bindings body)
    ∙ sym (part_of_node (construct (names_of bindings)) (parts_of bindings body))

operands_same : {X : Type 0} (rest : List (X × Tree)) → map (λ next. next.1) (map (with_part {X = X}) rest) ≡ map part_of_tree (map (λ next. next.1) rest)
operands_same [] = refl
operands_same (next ∷ rest) = ap (λ parts. part_of_tree next.1 ∷ parts) (operands_same rest)

as_many : {X : Type 0} (rest : List (X × Tree)) → length (map (λ next. next.1) (map (with_part {X = X}) rest)) ≡ length (map (λ next. next.0) rest)
as_many rest =
    length-map (map with_part rest) (λ next. next.1) ∙ length-map rest with_part ∙ sym (length-map rest (λ next. next.0))

-- operands with their operators
operated_as_node : {X : Type 0} (construct : List X → Construct) (first : Tree) (rest : List (X × Tree)) → part_by (construct (map (λ next. next.0) rest)) (part_of_tree first ∷ map (λ next. next.1) (map (with_part {X = X}) rest)) ≡ part_of_tree (tree.operated construct first rest)
operated_as_node construct first rest =
    ap (λ parts. part_by (construct (map (λ next. next.0) rest)) (part_of_tree first ∷ parts)) (operands_same rest)
    ∙ sym (part_of_node (construct (map (λ next. next.0) rest)) (first ∷ map (λ next. next.1) rest))

pub part_of_layer : (layer : Expr-F Tree) → PartOfLayer layer
part_of_layer (Expr-F.Comma parts) = sym (part_of_node tree.Comma parts.items)
part_of_layer (Expr-F.For bindings body) =
    seen_binder (map with_part bindings.items) (part_of_tree body.value) ∙ binder_as_node tree.For bindings.items body.value
part_of_layer (Expr-F.Let bindings body) =
    seen_binder (map with_part bindings.items) (part_of_tree body.value) ∙ binder_as_node tree.Let bindings.items body.value
part_of_layer (Expr-F.Quantified quantifier bindings test) =
    seen_binder (map with_part bindings.items) (part_of_tree test.value) ∙ binder_as_node (tree.Quantified quantifier) bindings.items test.value
part_of_layer (Expr-F.If test chosen other) =
    seen_choice (part_of_tree test.value) (part_of_tree chosen.value) (part_of_tree other.value) ∙ sym (part_of_node tree.If (test.value ∷ chosen.value ∷ other.value ∷ []))
part_of_layer (Expr-F.Or parts) = sym (part_of_node tree.Or parts.items)
part_of_layer (Expr-F.And parts) = sym (part_of_node tree.And parts.items)
part_of_layer (Expr-F.Comparison op left right) =
    seen_pair 4 5 (part_of_tree left.value) (part_of_tree right.value) ∙ sym (part_of_node (tree.Comparison op) (left.value ∷ right.value ∷ []))
part_of_layer (Expr-F.Concatenation parts) = sym (part_of_node tree.Concatenation parts.items)
part_of_layer (Expr-F.Range from to) =
    seen_pair 6 7 (part_of_tree from.value) (part_of_tree to.value) ∙ sym (part_of_node tree.Range (from.value ∷ to.value ∷ []))
part_of_layer (Expr-F.Additive first rest) =
    seen_operated 7 8 _ (part_of_tree first.value) _ (as_many rest.items) ∙ operated_as_node tree.Additive' first.value rest.items
part_of_layer (Expr-F.Multiplicative first rest) =
    seen_operated 8 9 _ (part_of_tree first.value) _ (as_many rest.items) ∙ operated_as_node tree.Multiplicative' first.value rest.items
part_of_layer (Expr-F.Union parts) = sym (part_of_node tree.Union parts.items)
part_of_layer (Expr-F.IntersectExcept first rest) =
    seen_operated 10 11 _ (part_of_tree first.value) _ (as_many rest.items) ∙ operated_as_node tree.IntersectExcept first.value rest.items
part_of_layer (Expr-F.Unary sign part) =
    seen_signed (part_of_tree part.value) ∙ sym (part_of_node (tree.Unary sign) (part.value ∷ []))
part_of_layer (Expr-F.SimpleMap parts) = sym (part_of_node tree.SimpleMap parts.items)
part_of_layer (Expr-F.Path steps) = sym (part_of_node tree.Path steps.items)
part_of_layer Expr-F.Root = sym (part_of_node tree.Root [])
part_of_layer (Expr-F.Step axis test predicates) = sym (part_of_node (tree.Step axis test) predicates.items)
part_of_layer (Expr-F.AttributeStep test predicates) = sym (part_of_node (tree.AttributeStep test) predicates.items)
part_of_layer (Expr-F.Filter primary predicates) =
    seen_filter (part_of_tree primary.value) (map part_of_tree predicates.items) ∙ sym (part_of_node tree.Filter (primary.value ∷ predicates.items))
part_of_layer (Expr-F.Integer value) =
    seen_alone Number (λ scope. is_digits value) ∙ sym (part_of_node (tree.Integer value) [])
part_of_layer (Expr-F.String text) = sym (part_of_node (tree.String text) [])
part_of_layer (Expr-F.Variable name) =
    seen_alone (Name name) (λ scope. is_among name scope.bound || is_among name scope.given) ∙ sym (part_of_node (tree.Variable name) [])
part_of_layer Expr-F.ContextItem = sym (part_of_node tree.ContextItem [])
part_of_layer (Expr-F.Call function arguments) = sym (part_of_node (tree.Call function) arguments.items)
part_of_layer (Expr-F.PmdCall function arguments) = sym (part_of_node (tree.PmdCall function) arguments.items)
