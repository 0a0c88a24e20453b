-- What a fold gives of an expression is what a fold gives of its tree.
use mathlib.Core.Path.{fun_ext}
use Rattle.std.proofs.Common.{◌≡◌, sym, ap, ◌∙◌, subst, List, [], ◌∷◌, ◌++◌, map, refl}
use Rattle.pj_xexpressions.specs.declared.expr.Expr.{Expr}
use Rattle.pj_xexpressions.specs.declared.expr.Expr.TheOpen.{Expr-F}
use Rattle.pj_xexpressions.specs.declared.expr.Expr.TheViews.{roll-Expr}
use Rattle.pj_xexpressions.specs.declared.expr.Expr.TheFolds.{map-Expr, ind-Expr, fold-Expr, fold-roll-Expr}
use Rattle.pj_xexpressions.specs.Trees.{Construct, Tree, Trees, Node, NoMore, More, node, trees, tree_step, tree_of}
use Rattle.pj_xexpressions.specs.Layers.{map-Expr_twice}

-- ---- folds of trees

unfoldable mutual
  pub fold_tree : {D : Type 0} → (Construct → List D → D) → Tree → D
  fold_tree by (Node construct parts) = by construct (fold_trees by parts)

  pub fold_trees : {D : Type 0} → (Construct → List D → D) → Trees → List D
  fold_trees by NoMore = []
  fold_trees by (More first rest) = fold_tree by first ∷ fold_trees by rest

fold_trees_each : {D : Type 0} (by : Construct → List D → D) (parts : List Tree) → fold_trees by (trees parts) ≡ map (fold_tree by) parts
unfolding fold_tree fold_trees
fold_trees_each by [] = refl
fold_trees_each by (first ∷ rest) = ap (λ more. fold_tree by first ∷ more) (fold_trees_each by rest)

pub fold_node : {D : Type 0} (by : Construct → List D → D) (construct : Construct) (parts : List Tree) → fold_tree by (node construct parts) ≡ by construct (map (fold_tree by) parts)
unfolding fold_tree fold_trees
fold_node by construct parts = ap (by construct) (fold_trees_each by parts)

-- ---- parts in a list

abbrev pub first : {D : Type 0} → D → List D → D
first other [] = other
first other (d ∷ ds) = d

abbrev pub rest : {D : Type 0} → List D → List D
rest [] = []
rest (d ∷ ds) = ds

-- names or operators with the parts that stand beside them
abbrev pub bound : {X D : Type 0} → List X → List D → List (X × D)
bound [] ds = []
bound (x ∷ xs) [] = []
bound (x ∷ xs) (d ∷ ds) = (x, d) ∷ bound xs ds

-- what stands behind them
abbrev pub behind_all : {X D : Type 0} → D → List X → List D → D
behind_all other [] ds = first other ds
behind_all other (x ∷ xs) ds = behind_all other xs (rest ds)

abbrev pub with_part : {X D : Type 0} → (Tree → D) → X × Tree → X × D
with_part f item = (item.0, f item.1)

pub bound_is : {X D : Type 0} (f : Tree → D) (bindings : List (X × Tree)) (body : Tree) → map (with_part f) bindings ≡ bound (map (λ b. b.0) bindings) (map f (map (λ b. b.1) bindings ++ body ∷ []))
bound_is f [] body = refl
bound_is f (b ∷ bs) body = ap (λ l. with_part f b ∷ l) (bound_is f bs body)

pub body_is : {X D : Type 0} (other : D) (f : Tree → D) (bindings : List (X × Tree)) (body : Tree) → f body ≡ behind_all other (map (λ b. b.0) bindings) (map f (map (λ b. b.1) bindings ++ body ∷ []))
body_is other f [] body = refl
body_is other f (b ∷ bs) body = body_is other f bs body

pub operands_are : {X D : Type 0} (f : Tree → D) (operands : List (X × Tree)) → map (with_part f) operands ≡ bound (map (λ b. b.0) operands) (map f (map (λ b. b.1) operands))
operands_are f [] = refl
operands_are f (b ∷ bs) = ap (λ l. with_part f b ∷ l) (operands_are f bs)

-- ---- expressions

tree_of_rolled : (layer : Expr-F Expr) → tree_of (roll-Expr layer) ≡ tree_step (map-Expr Expr Tree tree_of layer)
unfolding tree_of
tree_of_rolled layer = fold-roll-Expr Tree tree_step layer

module _ {D : Type 0} (step : Expr-F D → D) (by : Construct → List D → D) (layers : (layer : Expr-F Tree) → step (map-Expr Tree D (fold_tree by) layer) ≡ fold_tree by (tree_step layer)) where
  abbrev HasFold : Expr → Type 0
  HasFold e = fold-Expr D step e ≡ fold_tree by (tree_of e)

  abbrev Folded : Type 0
  Folded = (e : Expr) × HasFold e

  parts_folded : (folded : Expr-F Folded) → map-Expr Expr D (fold-Expr D step) (map-Expr Folded Expr (λ e. e.0) folded) ≡ map-Expr Expr D (λ e. fold_tree by (tree_of e)) (map-Expr Folded Expr (λ e. e.0) folded)
  parts_folded folded =
      map-Expr_twice (λ (e : Folded). e.0) (fold-Expr D step) folded
      ∙ ap (λ f. map-Expr Folded D f folded) (fun_ext (λ (e : Folded). e.1))
      ∙ sym (map-Expr_twice (λ (e : Folded). e.0) (λ e. fold_tree by (tree_of e)) folded)

  rolled_fold : (layer : Expr-F Expr) → map-Expr Expr D (fold-Expr D step) layer ≡ map-Expr Expr D (λ e. fold_tree by (tree_of e)) layer → HasFold (roll-Expr layer)
  rolled_fold layer same =
      fold-roll-Expr D step layer
      ∙ ap step same
      ∙ ap step (sym (map-Expr_twice tree_of (fold_tree by) layer))
      ∙ layers (map-Expr Expr Tree tree_of layer)
      ∙ ap (fold_tree by) (sym (tree_of_rolled layer))

  pub fold_by_tree : (e : Expr) → fold-Expr D step e ≡ fold_tree by (tree_of e)
  fold_by_tree =
      ind-Expr HasFold (λ layer folded is. rolled_fold layer (subst (λ l. map-Expr Expr D (fold-Expr D step) l ≡ map-Expr Expr D (λ e. fold_tree by (tree_of e)) l) is (parts_folded folded)))
