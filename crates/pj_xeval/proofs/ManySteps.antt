-- Steps over many items.
use Rattle.std.proofs.Common.{◌≡◌, ℕ, ◌+◌, ◌<◌, ◌++◌, Bool, true, false, List, [], ◌∷◌, length, get_or, take, ap, ◌∙◌, append-nil}
use Rattle.std.proofs.lemmas.Grind.{flat_map-append}
use Rattle.pj_tree.specs.Tree.{Tree}
use Rattle.pj_xexpressions.specs.declared.axis.Axis.{Axis}
use Rattle.pj_xexpressions.specs.declared.expr.NodeTest.{NodeTest}
use Rattle.pj_xvalue.specs.declared.item.Item.{Item}
use Rattle.pj_xvalue.specs.Items.{ItemValue, value_of_item, values_of}
use Rattle.pj_xvalue.specs.OfTree.{OfTree}
use Rattle.pj_xvalue.proofs.OfTreeLaws.{of_tree-nil, of_tree-append, of_tree-head, of_tree-tail}
use Rattle.pj_xaxes.specs.Axes.{is_reverse}
use Rattle.pj_xsteps.specs.Steps.{stepped, in_document_order}
use Rattle.pj_xeval.specs.Over.{stepped_at, stepped_at_each}
use Rattle.pj_xsteps.proofs.OfTree.{of_tree-reverse, stepped-of_tree}
use Rattle.pj_xsteps.proofs.Values.{values_more}

-- one more item
pub each_more : (t : Tree) (a : Axis) (test : NodeTest) (items : List Item) (i : ℕ) (x : Item) → i < length items → x ≡ get_or items i x
    → stepped_at_each t a test (values_of (take (i + 1) items)) ≡ stepped_at_each t a test (values_of (take i items)) ++ stepped_at t a test (value_of_item x)
each_more t a test items i x lt is =
    ap (stepped_at_each t a test) (values_more items i x lt is) ∙ flat_map-append (stepped_at t a test) (values_of (take i items)) (value_of_item x ∷ [])
    ∙ ap (λ l. stepped_at_each t a test (values_of (take i items)) ++ l) (append-nil (stepped_at t a test (value_of_item x)))

ordered-of_tree : (n : ℕ) (backwards : Bool) (xs : List ItemValue) → OfTree n xs → OfTree n (in_document_order backwards xs)
ordered-of_tree n true xs h = of_tree-reverse n xs h
ordered-of_tree n false xs h = h

pub each-step-of_tree : (t : Tree) (a : Axis) (test : NodeTest) (items : List ItemValue) → 0 < length t.nodes → OfTree (length t.nodes) items → OfTree (length t.nodes) (stepped_at_each t a test items)
each-step-of_tree t a test [] rooted h = of_tree-nil (length t.nodes)
each-step-of_tree t a test (x ∷ xs) rooted h =
    of_tree-append (length t.nodes) (stepped_at t a test x) (stepped_at_each t a test xs)
    (ordered-of_tree (length t.nodes) (is_reverse a) (stepped t a test x) (stepped-of_tree t a test x rooted (of_tree-head (length t.nodes) x xs h)))
    (each-step-of_tree t a test xs rooted (of_tree-tail (length t.nodes) x xs h))
