-- Nodes in preorder, and those of a body before its turns are put over them. It serves clauses inside the crate alone.
use Rattle.std.specs.Prelude.{ℕ, ◌+◌, ◌==◌, Bool, true, false, ◌&&◌, not, List, [], ◌∷◌, ◌++◌, length}
use Rattle.pj_peg_grammar.specs.Derivation.{Forest, no_tree, tree}
use Rattle.pj_shape.specs.declared.made.Made.{Made}
use Rattle.pj_shape.specs.declared.shape.Shape.{Shape}
use Rattle.pj_shape.specs.declared.shape.Shape.TheVariants.{Pass, Node, Joined, Turn, Segment}
use Rattle.pj_shape.specs.Shaped.{Nodes, no_nodes, node, one_node, joined, acts, is_last, shape_of, shaped}

-- the nodes in preorder, each with the number of nodes of its subtree
abbrev pub flat : Nodes → List Made
flat no_nodes = []
flat (node k i j below after) = record { kind = k; from = i; to = j; size = 1 + length (flat below) } ∷ flat below ++ flat after

abbrev pub is_two : Nodes → Bool
is_two no_nodes = false
is_two (node k i j below no_nodes) = false
is_two (node k i j below (node l m n under after)) = true

-- the nodes of a rule, but for those of a turn, of which its parts alone are had
abbrev pub by_itself : Shape → ℕ → ℕ → Nodes → Nodes
by_itself Pass i j ns = ns
by_itself (Node k) i j ns = one_node k i j ns
by_itself (Joined k) i j ns = joined k i j ns
by_itself (Turn k) i j ns = ns
by_itself (Segment k) i j ns = ns

abbrev pub raw : List Shape → (ℕ → Bool) → Forest → List Made
raw shapes small no_tree = []
raw shapes small (tree r i j below after) = flat (by_itself (shape_of shapes r) i j (shaped shapes small i no_nodes below)) ++ raw shapes small after

-- whether a segment leads, by whether no node stands before it
abbrev pub leads_by : (ℕ → Bool) → ℕ → ℕ → Bool → Forest → Bool
leads_by small i j first after = (small i && j == i + 1) && (first && not (is_last after))

-- the nodes of the turns, the outermost one first, over as many nodes before
abbrev pub turn_onto : Shape → ℕ → ℕ → ℕ → List Made → List Made
turn_onto Pass start j size ms = ms
turn_onto (Node k) start j size ms = ms
turn_onto (Joined k) start j size ms = ms
turn_onto (Segment k) start j size ms = ms
turn_onto (Turn k) start j size ms = ms ++ record { kind = k; from = start; to = j; size = 1 + size } ∷ []

abbrev pub with_turn : Shape → ℕ → ℕ
with_turn Pass n = n
with_turn (Node k) n = n
with_turn (Joined k) n = n
with_turn (Segment k) n = n
with_turn (Turn k) n = 1 + n

abbrev pub turns : List Shape → (ℕ → Bool) → ℕ → ℕ → Forest → List Made
turns shapes small start n no_tree = []
turns shapes small start n (tree r i j below after) =
    let m = n + length (flat (by_itself (shape_of shapes r) i j (shaped shapes small i no_nodes below))) in
    let shape = acts (shape_of shapes r) (leads_by small i j (n == 0) after) in
    turn_onto shape start j m (turns shapes small start (with_turn shape m) after)
