-- The parts of a derivation that takes all tokens stand in order in the text, and have each token once.
use Rattle.std.proofs.Common.{◌≡◌, ℕ, ◌+◌, ◌-◌, ◌≤◌, Bool, List, [], ◌∷◌, length, take, drop, refl, sym, ◌∙◌, ap, subst, arith}
use Rattle.std.specs.Prelude.{slice_range}
use Rattle.std.proofs.lemmas.List.{append-nil, take_all}
use Rattle.pj_tree.specs.declared.kind.Kind.{Kind}
use Rattle.pj_tree.specs.declared.node.Span.{Span}
use Rattle.pj_tree.specs.Tree.{IsSpanOf}
use Rattle.pj_tree.specs.Nested.{Parts}
use Rattle.pj_peg_grammar.specs.Form.{Form, rule}
use Rattle.pj_peg_grammar.specs.Derivation.{Forest, no_tree, tree}
use Rattle.pj_peg_grammar.specs.Derives.{Derives, To}
use Rattle.pj_shape.specs.declared.shape.Shape.{Shape}
use Rattle.pj_shape.specs.declared.shape.Shape.TheVariants.{Pass, Node, Joined, Turn, Segment}
use Rattle.pj_shape.specs.InOrder.{StandInOrder, all_tokens}
use Rattle.pj_shape.specs.Shaped.{Nodes, no_nodes, one_node, with_rule, acts, leads, shape_of, shaped, nodes_of}
use Rattle.pj_shape.specs.ShapedTree.{roots_of, parts_of_derivation, MakesNode}
use Rattle.pj_shape.specs.Typed.{Words, typed, words_of, with_types, around_of}
use Rattle.pj_shape.specs.Words.{AreTokens, is_small}
use Rattle.pj_shape.specs.Written.{begin_of, end_of, parts_of}
use Rattle.pj_shape.proofs.Following.{tokens_of_parts, parts_stand, end_bounds}
use Rattle.pj_shape.proofs.Laying.{Laid, lies, one_tree}
use Rattle.pj_shape.proofs.Nesting.{Nested, nested_shaped, nested_typed, HasSolidNames}
use Rattle.pj_shape.proofs.Shutting.{IsTight, Shut, Taken, taken}
use Rattle.pj_shape.proofs.Spanning.{node_span}

-- parts of a text that stand in order, and whose tokens are these
pub record HaveEachToken (text : List ℕ) (spans : List Span) (parts : Parts) : Type 0 where
  pub stand : StandInOrder 0 (length text) parts
  pub tokens : all_tokens parts ≡ spans

root_kind : (s : Shape) → MakesNode s → (kind : Kind) × (s ≡ Node kind)
root_kind Pass h = absurd h
root_kind (Node kind) h = (kind, refl)
root_kind (Joined kind) h = absurd h
root_kind (Turn kind) h = absurd h
root_kind (Segment kind) h = absurd h

whole_range : (xs : List Span) → slice_range xs 0 (length xs) ≡ xs
whole_range xs = from_take xs (drop 0 xs) (none xs)
  where
    none : (xs : List Span) → drop 0 xs ≡ xs
    none [] = refl
    none (x ∷ xs) = refl

    from_take : (xs ys : List Span) → ys ≡ xs → take (length xs - 0) ys ≡ xs
    from_take xs ys e = ap (take (length xs - 0)) e ∙ take_all (length xs - 0) xs (omega arith)

module _ (hollow : Kind → Bool) (solid : HasSolidNames hollow) (text : List ℕ) (spans : List Span) (are : AreTokens text spans) where
  -- one root over all tokens
  root_parts : (kind : Kind) (ns : Nodes) → Nested hollow (length spans) 0 (length spans) ns → HaveEachToken text spans (roots_of text spans (with_types text spans (one_node kind 0 (length spans) ns)))
  root_parts kind ns h =
      let n = length spans in
      let w : Words = words_of text spans (one_node kind 0 n ns) in
      let below : Nodes = typed w (around_of kind 0) ns in
      let nested : Nested hollow n 0 n below = nested_typed hollow solid w (around_of kind 0) n 0 n ns h in
      let nn : n ≤ n = omega arith in
      let some : 0 ≤ n = omega arith in
      let span : IsSpanOf text (record { from = begin_of text spans 0; to = end_of text spans 0 n }) = node_span text spans are 0 n some nn in
      let first : begin_of text spans 0 ≤ begin_of text spans 0 = (let b = begin_of text spans 0 in omega arith) in
      record {
        stand = (
          (let b = begin_of text spans 0 in omega arith),
          parts_stand text spans are hollow (begin_of text spans 0) (end_of text spans 0 n) n 0 n below nested nn nn first span.ordered (end_bounds text spans are 0 n some nn),
          span.ends.0,
        );
        tokens = append-nil (all_tokens (parts_of text spans 0 n below)) ∙ tokens_of_parts hollow text spans n 0 n below nested ∙ whole_range spans;
      }

  pub derived_parts : (e : ℕ → Bool) (rules : List Form) (shapes : List Shape) → IsTight hollow e rules shapes → MakesNode (shape_of shapes 0) → (kinds : List ℕ) (d : Forest) → Derives rules kinds (rule 0) 0 (To (length spans) d) →
      HaveEachToken text spans (parts_of_derivation text spans shapes d)
  derived_parts e rules shapes tight makes kinds d x =
      let n = length spans in
      let one = one_tree x in
      let below : Forest = one.0 in
      let l = lies x in
      let laid : Laid 0 n (tree 0 0 n below no_tree) = subst (Laid 0 n) one.1 l.0 in
      let t : Taken hollow e rules shapes tight (rule 0) 0 n d = taken hollow e rules shapes tight x in
      let shut : Shut hollow shapes (n + 1) (tree 0 0 n below no_tree) = subst (Shut hollow shapes (n + 1)) one.1 (t.before (n + 1) (omega arith)) in
      let kind = root_kind (shape_of shapes 0) makes in
      let small : ℕ → Bool = is_small text spans in
      let inner : Nodes = shaped shapes small 0 no_nodes below in
      let zero_le : 0 ≤ 0 = omega arith in
      let nn : n ≤ n = omega arith in
      let nested : Nested hollow n 0 n inner = nested_shaped hollow shapes small 0 0 n n no_nodes below zero_le laid.1 shut.1 nn zero_le in
      let nodes_are : nodes_of shapes small d ≡ one_node kind.0 0 n inner =
      ap (nodes_of shapes small) one.1 ∙ ap (λ s. with_rule (acts s (leads small 0 n no_nodes no_tree)) 0 0 n no_nodes inner) kind.1 in
      subst (λ (ns : Nodes). HaveEachToken text spans (roots_of text spans (with_types text spans ns))) (sym nodes_are) (root_parts kind.0 inner nested)
