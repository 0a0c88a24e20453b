-- The syntax tree of a derivation.
use Rattle.std.specs.Prelude.{◌≡◌, ℕ, List, length, None, Result}
use Rattle.pj_tree.specs.Tree.{Tree}
use Rattle.pj_tree.specs.Building.{finished}
use Rattle.pj_tree.specs.Nested.{Parts, NoMore, Child, preorder}
use Rattle.pj_tree.specs.declared.node.Span.{Span}
use Rattle.pj_tree.specs.declared.shape_fault.ShapeFault.{ShapeFault}
use Rattle.pj_peg_grammar.specs.Form.{Form}
use Rattle.pj_peg_grammar.specs.Derivation.{Forest}
use Rattle.pj_peg_grammar.specs.Derives.{DerivesSteps}
use Rattle.pj_peg_grammar.specs.declared.derivation.Step.{Step}
use Rattle.pj_shape.specs.declared.shape.Shape.{Shape}
use Rattle.pj_shape.specs.declared.shape.Shape.TheVariants.{Pass, Node, Joined, Turn, Segment}
use Rattle.pj_shape.specs.Shaped.{Nodes, no_nodes, node, nodes_of}
use Rattle.pj_shape.specs.Typed.{with_types}
use Rattle.pj_shape.specs.Words.{is_small}
use Rattle.pj_shape.specs.Written.{begin_of, end_of, parts_of}

-- nodes that stand in no other one
abbrev pub roots_of : List ℕ → List Span → Nodes → Parts
roots_of text spans no_nodes = NoMore
roots_of text spans (node k i j below after) = Child k (begin_of text spans i) (parts_of text spans i j below) (end_of text spans i j) (roots_of text spans after)

-- The nodes of a derivation with their kinds, spans and own tokens, nested in one another: those that the shapes of its rules
-- give, with types among the names.
abbrev pub parts_of_derivation : List ℕ → List Span → List Shape → Forest → Parts
parts_of_derivation text spans shapes d = roots_of text spans (with_types text spans (nodes_of shapes (is_small text spans) d))

-- The syntax tree of a derivation, which is the list of these nodes in preorder; or why there is none: a node is deeper than 1,000,
-- or else there are more than 2,000,000 nodes.
abbrev pub shaped_tree : List ℕ → List Span → List Shape → Forest → Result Tree ShapeFault
shaped_tree text spans shapes d = finished (record { text = text; nodes = preorder None 0 (parts_of_derivation text spans shapes d); current = None })

-- the rule makes one node, whatever its body makes
abbrev pub MakesNode : Shape → Type 0
MakesNode Pass = ⊥
MakesNode (Node k) = Unit {0}
MakesNode (Joined k) = ⊥
MakesNode (Turn k) = ⊥
MakesNode (Segment k) = ⊥

-- the steps are those of a derivation of the first rule by some grammar over as many tokens
abbrev pub IsDerived : ℕ → List Step → Type 0
IsDerived count steps = (rules : List Form) × (kinds : List ℕ) × (length kinds ≡ count) × DerivesSteps rules kinds steps
