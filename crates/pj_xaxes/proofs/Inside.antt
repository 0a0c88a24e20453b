-- The nodes of an axis, and items in document order, are of the tree.
use Rattle.std.proofs.Common.{ℕ, ◌-◌, ◌<◌, Bool, true, false, List, [], ◌∷◌, length, reverse, filter, sym, subst, arith}
use Rattle.std.specs.List.{All, AllByRecursion, range_with_len}
use Rattle.std.proofs.lemmas.List.Elements.{All-filter, All-map}
use Rattle.std.proofs.lemmas.List.{get_or-reverse, length-reverse}
use Rattle.std.proofs.lemmas.List.FromFn.{get_or-range_with_len, length-range_with_len}
use Rattle.std.specs.declared.cmp.Ordering.TheVariants.{Less, Equal, Greater}
use Rattle.pj_tree.specs.declared.node.Node.{Node}
use Rattle.pj_tree.specs.Tree.{Tree}
use Rattle.pj_xexpressions.specs.declared.axis.Axis.{Axis}
use Rattle.pj_xvalue.specs.Items.{ItemValue, IsOfTree}
use Rattle.pj_xvalue.specs.OfTree.{OfTree}
use Rattle.pj_xvalue.proofs.OfTreeLaws.{of_tree-each, each-of_tree}
use Rattle.pj_xaxes.specs.Axes.{node, on_axis, is_reverse, all_nodes, turned, axis_nodes}
use Rattle.pj_xaxes.specs.Order.{document_order, put, put_by, ordered}

numbers-below : (n : ℕ) → All (λ k. k < n) (range_with_len 0 n)
numbers-below n i d lt =
    let at : i < n = subst (λ k. i < k) (length-range_with_len 0 n) lt in
    subst (λ k. k < n) (sym (get_or-range_with_len 0 n i d at)) (omega arith)

pub nodes-inside : (t : Tree) → All (λ m. m.0 < length t.nodes) (all_nodes t)
nodes-inside t = All-map (λ m. m.0 < length t.nodes) node (range_with_len 0 (length t.nodes)) (numbers-below (length t.nodes))

All-reverse : (P : Node → Type 0) (ms : List Node) → All P ms → All P (reverse ms)
All-reverse P ms h i d lt =
    let at : i < length ms = subst (λ k. i < k) (length-reverse ms) lt in
    subst P (sym (get_or-reverse ms i d at)) (h (length ms - 1 - i) d (omega arith))

turned-inside : (b : Bool) (P : Node → Type 0) (ms : List Node) → All P ms → All P (turned b ms)
turned-inside true P ms h = All-reverse P ms h
turned-inside false P ms h = h

pub axis-inside : (t : Tree) (axis : Axis) (n : Node) → All (λ m. m.0 < length t.nodes) (axis_nodes t axis n)
axis-inside t axis n = turned-inside (is_reverse axis) (λ m. m.0 < length t.nodes) (filter (on_axis t axis n) (all_nodes t)) (All-filter (on_axis t axis n) (λ m. m.0 < length t.nodes) (all_nodes t) (nodes-inside t))

of-put : (n : ℕ) (x : ItemValue) (ys : List ItemValue) → IsOfTree n x → AllByRecursion (IsOfTree n) ys → AllByRecursion (IsOfTree n) (put x ys)
of-put n x [] h hs = (h, tt)
of-put n x (y ∷ ys) h hs = elim (document_order x y) as (λ r. AllByRecursion (IsOfTree n) (put_by r x y ys (put x ys))) [
  | Less ↦ (h, hs)
  | Equal ↦ hs
  | Greater ↦ (hs.0, of-put n x ys h hs.1)
]

of-ordered : (n : ℕ) (xs : List ItemValue) → AllByRecursion (IsOfTree n) xs → AllByRecursion (IsOfTree n) (ordered xs)
unfolding ordered
of-ordered n [] h = tt
of-ordered n (x ∷ xs) h = of-put n x (ordered xs) h.0 (of-ordered n xs h.1)

pub of_tree-ordered : (n : ℕ) (xs : List ItemValue) → OfTree n xs → OfTree n (ordered xs)
of_tree-ordered n xs h = of_tree-each n (ordered xs) (of-ordered n xs (each-of_tree n xs h))
