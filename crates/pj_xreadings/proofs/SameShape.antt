-- What the surroundings see of an expression is what they see of its tree.
use mathlib.Core.Path.{fun_ext}
use Rattle.std.proofs.Common.{◌≡◌, sym, ap, ◌∙◌, subst}
use Rattle.pj_xexpressions.specs.declared.expr.Expr.{Expr}
use Rattle.pj_xexpressions.specs.declared.expr.Expr.TheOpen.{Expr-F}
use Rattle.pj_xexpressions.specs.declared.expr.Expr.TheViews.{roll-Expr}
use Rattle.pj_xexpressions.specs.declared.expr.Expr.TheFolds.{map-Expr, ind-Expr, fold-roll-Expr}
use Rattle.pj_xexpressions.specs.Expressions.{Part, part_step, part_of}
use Rattle.pj_xexpressions.specs.Trees.{Tree, tree_step, tree_of}
use Rattle.pj_xreadings.specs.Shapes.{part_of_tree}
use Rattle.pj_xexpressions.specs.Layers.{map-Expr_twice}
use Rattle.pj_xreadings.proofs.LayerForms.{part_of_layer}

abbrev HasShape : Expr → Type 0
HasShape e = part_of e ≡ part_of_tree (tree_of e)

abbrev Shaped : Type 0
Shaped = (e : Expr) × HasShape e

part_of_rolled : (layer : Expr-F Expr) → part_of (roll-Expr layer) ≡ part_step (map-Expr Expr Part part_of layer)
unfolding part_of
part_of_rolled layer = fold-roll-Expr Part part_step layer

tree_of_rolled : (layer : Expr-F Expr) → tree_of (roll-Expr layer) ≡ tree_step (map-Expr Expr Tree tree_of layer)
unfolding tree_of
tree_of_rolled layer = fold-roll-Expr Tree tree_step layer

-- where the parts have their shapes
parts_shaped : (shaped : Expr-F Shaped) → map-Expr Expr Part part_of (map-Expr Shaped Expr (λ e. e.0) shaped) ≡ map-Expr Expr Part (λ e. part_of_tree (tree_of e)) (map-Expr Shaped Expr (λ e. e.0) shaped)
parts_shaped shaped =
    map-Expr_twice (λ (e : Shaped). e.0) part_of shaped
    ∙ ap (λ f. map-Expr Shaped Part f shaped) (fun_ext (λ (e : Shaped). e.1))
    ∙ sym (map-Expr_twice (λ (e : Shaped). e.0) (λ e. part_of_tree (tree_of e)) shaped)

rolled_shape : (layer : Expr-F Expr) → map-Expr Expr Part part_of layer ≡ map-Expr Expr Part (λ e. part_of_tree (tree_of e)) layer → HasShape (roll-Expr layer)
rolled_shape layer same =
    part_of_rolled layer
    ∙ ap part_step same
    ∙ ap part_step (sym (map-Expr_twice tree_of part_of_tree layer))
    ∙ part_of_layer (map-Expr Expr Tree tree_of layer)
    ∙ ap part_of_tree (sym (tree_of_rolled layer))

pub expression_has_shape : (e : Expr) → HasShape e
expression_has_shape =
    ind-Expr HasShape (λ layer shaped is. rolled_shape layer (subst (λ l. map-Expr Expr Part part_of l ≡ map-Expr Expr Part (λ e. part_of_tree (tree_of e)) l) is (parts_shaped shaped)))
