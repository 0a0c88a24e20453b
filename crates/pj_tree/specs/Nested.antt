-- Nested nodes, the calls that write them, and their nodes in preorder: what lists of calls make, apart from the builder.
use Rattle.std.specs.Prelude.{ℕ, ◌≡◌, ◌+◌, max, Option, None, Some, List, [], ◌∷◌, ◌++◌}
use Rattle.pj_tree.specs.Tree.{TreeNode, IsSpanOf, greatest_depth}
use Rattle.pj_tree.specs.Building.{Call, Open, Close, Own, built, IsWhole}
use Rattle.pj_tree.specs.declared.kind.Kind.{Kind}
use Rattle.pj_tree.specs.declared.node.Node.{Node}
use Rattle.pj_tree.specs.declared.node.Span.{Span}

-- the parts of a node in the order of the text: its own tokens, and its children, each with its kind, where it begins, its parts and where it ends
pub data Parts : Type 0 where
  NoMore : Parts
  Token : Span → Parts → Parts
  Child : Kind → ℕ → Parts → ℕ → Parts → Parts

-- the calls that write the parts
abbrev pub calls_of : Parts → List Call
calls_of NoMore = []
calls_of (Token token rest) = Own token ∷ calls_of rest
calls_of (Child kind from inside to rest) = Open kind from ∷ (calls_of inside ++ Close to ∷ calls_of rest)

-- the own tokens among the parts
abbrev pub tokens_of : Parts → List Span
tokens_of NoMore = []
tokens_of (Token token rest) = token ∷ tokens_of rest
tokens_of (Child kind from inside to rest) = tokens_of rest

-- how many nodes the parts have, the inner ones too
abbrev pub node_count : Parts → ℕ
node_count NoMore = 0
node_count (Token token rest) = node_count rest
node_count (Child kind from inside to rest) = 1 + node_count inside + node_count rest

-- the nodes of the parts of a node in preorder: each child, its inner nodes, and then those behind it; the first has the given number
abbrev pub preorder : Option Node → ℕ → Parts → List TreeNode
preorder parent number NoMore = []
preorder parent number (Token token rest) = preorder parent number rest
preorder parent number (Child kind from inside to rest) =
    record { kind = kind; parent = parent; span = record { from = from; to = to }; own = tokens_of inside }
    ∷ (preorder (Some (record { 0 = number })) (number + 1) inside ++ preorder parent (number + 1 + node_count inside) rest)

-- all spans are spans of the text
abbrev pub AreSpansOf : List ℕ → Parts → Type 0
AreSpansOf text NoMore = Unit {0}
AreSpansOf text (Token token rest) = IsSpanOf text token × AreSpansOf text rest
AreSpansOf text (Child kind from inside to rest) = IsSpanOf text (record { from = from; to = to }) × AreSpansOf text inside × AreSpansOf text rest

-- how deep the deepest of the nodes is, where the parts are those of a node of this depth, and 0 for none
abbrev pub deepest_below : ℕ → Parts → ℕ
deepest_below depth NoMore = 0
deepest_below depth (Token token rest) = deepest_below depth rest
deepest_below depth (Child kind from inside to rest) = max (depth + 1) (max (deepest_below (depth + 1) inside) (deepest_below depth rest))

-- calls that write parts, from the first call on, make their nodes in preorder, which are as deep as the parts are nested; with one root and spans of the text they can be finished
pub record WritesPreorder (text : List ℕ) : Type 0 where
  pub nodes : (parts : Parts) → built text (calls_of parts) ≡ record { text = text; nodes = preorder None 0 parts; current = None }
  pub depth : (parts : Parts) → greatest_depth (preorder None 0 parts) ≡ deepest_below 0 parts
  pub whole : (kind : Kind) (from to : ℕ) (inside : Parts) → AreSpansOf text (Child kind from inside to NoMore) → IsWhole (built text (calls_of (Child kind from inside to NoMore)))
