-- The tree of a derivation, by what the calls ensure.
use Rattle.std.proofs.Common.{◌≡◌, ℕ, ◌≤◌, Bool, List, length, None, refl, sym, ◌∙◌, ap, subst, arith, ◌⊎◌, inr}
use Rattle.std.specs.Prelude.{Result, Ok, Err, MatchResult}
use Rattle.std.specs.List.{fold, All}
use Rattle.pj_tree.specs.declared.kind.Kind.{Kind}
use Rattle.pj_tree.specs.declared.node.Span.{Span}
use Rattle.pj_tree.specs.declared.shape_fault.ShapeFault.{ShapeFault}
use Rattle.pj_tree.specs.declared.shape_fault.ShapeFault.TheVariants.{Memory}
use Rattle.pj_tree.specs.Tree.{Tree}
use Rattle.pj_tree.specs.Building.{Building, after_call, started, finished, IsWhole}
use Rattle.pj_tree.specs.Nested.{Parts, calls_of, preorder, WritesPreorder}
use Rattle.pj_peg_grammar.specs.Form.{Form, rule}
use Rattle.pj_peg_grammar.specs.Derivation.{Forest, no_tree, tree, steps_of}
use Rattle.pj_peg_grammar.specs.Derives.{Derives, To}
use Rattle.pj_peg_grammar.specs.declared.derivation.Step.{Step}
use Rattle.pj_shape.specs.declared.shape.Shape.{Shape}
use Rattle.pj_shape.specs.declared.shape.Shape.TheVariants.{Pass, Node, Joined, Turn, Segment}
use Rattle.pj_shape.specs.Shaped.{Nodes, no_nodes, with_rule, acts, leads, shape_of, shaped, nodes_of}
use Rattle.pj_shape.specs.Flat.{flat}
use Rattle.pj_shape.specs.Typed.{Words, typed, words_of, with_types, around_of}
use Rattle.pj_shape.specs.ShapedTree.{roots_of, shaped_tree, MakesNode, IsDerived}
use Rattle.pj_shape.specs.Words.{AreTokens, is_small}
use Rattle.pj_shape.specs.Writing.{IsWithin, Root, root_of}
use Rattle.pj_shape.specs.Written.{begin_of, end_of, parts_of}
use Rattle.pj_shape.proofs.Laying.{Laid, lies, one_tree, AreIn, in_shaped, in_typed, flat_within, one_forest}
use Rattle.pj_shape.proofs.Spanning.{node_span, parts_spans}

module _ (text : List ℕ) (spans : List Span) (shapes : List Shape) (steps : List Step) (root : MakesNode (shape_of shapes 0)) (derived : IsDerived (length spans) steps) where
  -- the derivation: the first rule over the tokens up to a place
  pub record Top : Type 0 where
    pub d : Forest
    pub steps_are : steps ≡ steps_of d
    pub kind : Kind
    pub to : ℕ
    pub below : Forest
    pub within : to ≤ length spans
    pub laid : Laid 0 to below
    pub d_is : d ≡ tree 0 0 to below no_tree
    pub shape_is : shape_of shapes 0 ≡ Node kind

  kind_of_root : (s : Shape) → MakesNode s → (k : Kind) × (s ≡ Node k)
  kind_of_root Pass h = absurd h
  kind_of_root (Node k) h = (k, refl)
  kind_of_root (Joined k) h = absurd h
  kind_of_root (Turn k) h = absurd h
  kind_of_root (Segment k) h = absurd h

  top_from : (rules : List Form) (kinds : List ℕ) → length kinds ≡ length spans → (j : ℕ) (d : Forest) → Derives rules kinds (rule 0) 0 (To j d) → steps ≡ steps_of d → Top
  top_from rules kinds len j d x is =
      let one = one_tree x in
      let l = lies x in
      let in_tokens : j ≤ length kinds = l.1 (omega arith) in
      let laid : Laid 0 j (tree 0 0 j one.0 no_tree) = subst (Laid 0 j) one.1 l.0 in
      let kind = kind_of_root (shape_of shapes 0) root in
      record { d = d; steps_are = is; kind = kind.0; to = j; below = one.0; within = (let a = in_tokens in let b = len in omega arith); laid = laid.1; d_is = one.1; shape_is = kind.1 }

  pub top : Top
  top = top_from derived.0 derived.1 derived.2 derived.3.0 derived.3.1 derived.3.2 derived.3.3

  abbrev pub small : ℕ → Bool
  small = is_small text spans

  pub inner : Nodes
  inner = shaped shapes small 0 no_nodes top.below

  abbrev pub the_root : Root
  the_root = record { kind = top.kind; from = 0; to = top.to; below = inner }

  abbrev pub the_words : Words
  the_words = words_of text spans (root_of the_root)

  pub nodes_are : nodes_of shapes small top.d ≡ root_of the_root
  unfolding inner
  nodes_are =
      ap (nodes_of shapes small) top.d_is ∙
      ap (λ s. with_rule (acts s (leads small 0 top.to no_nodes no_tree)) 0 0 top.to no_nodes (shaped shapes small 0 no_nodes top.below)) top.shape_is

  pub inner_in : AreIn (length spans) inner
  unfolding inner
  inner_in =
      let zero_is : 0 ≤ 0 = omega arith in
      in_shaped (length spans) shapes small 0 0 top.to no_nodes top.below zero_is top.laid top.within tt

  pub root_in : All (IsWithin (length spans)) (flat (root_of the_root))
  root_in = let le : 0 ≤ top.to = omega arith in flat_within (length spans) (root_of the_root) (le, top.within, inner_in, tt)

  abbrev pub the_parts : Parts
  the_parts = roots_of text spans (typed the_words None (root_of the_root))

  -- the builder can be finished
  pub is_whole : AreTokens text spans → WritesPreorder text → (first builder : Building) → first ≡ started text → builder ≡ fold after_call first (calls_of the_parts) → IsWhole builder
  is_whole are writes first builder e1 e2 =
      let le : 0 ≤ top.to = omega arith in
      let typed_in : AreIn (length spans) (typed the_words (around_of top.kind 0) inner) = in_typed (length spans) the_words (around_of top.kind 0) inner inner_in in
      subst IsWhole (sym (e2 ∙ ap (λ b. fold after_call b (calls_of the_parts)) e1))
      (writes.whole top.kind (begin_of text spans 0) (end_of text spans 0 top.to) (parts_of text spans 0 top.to (typed the_words (around_of top.kind 0) inner))
      (node_span text spans are 0 top.to le top.within, parts_spans text spans are 0 top.to (typed the_words (around_of top.kind 0) inner) typed_in, tt))

  -- what is wanted of a derivation with these steps
  pub wanted : (d : Forest) → steps ≡ steps_of d → shaped_tree text spans shapes d ≡ finished (record { text = text; nodes = preorder None 0 the_parts; current = None })
  wanted d is =
      ap (shaped_tree text spans shapes) (one_forest 0 d top.d (sym is ∙ top.steps_are)) ∙
      ap (λ ns. finished (record { text = text; nodes = preorder None 0 (roots_of text spans (with_types text spans ns)); current = None })) nodes_are

  pub made : WritesPreorder text → (first builder : Building) → first ≡ started text → builder ≡ fold after_call first (calls_of the_parts) → (d : Forest) → steps ≡ steps_of d →
      shaped_tree text spans shapes d ≡ finished builder
  made writes first builder e1 e2 d is =
      wanted d is ∙ ap finished (sym (writes.nodes the_parts)) ∙ ap finished (sym (e2 ∙ ap (λ b. fold after_call b (calls_of the_parts)) e1))

pub answer : (wanted given : Result Tree ShapeFault) → wanted ≡ given → MatchResult given (λ tree. wanted ≡ Ok tree) (λ fault. (fault ≡ Memory) ⊎ (wanted ≡ Err fault))
answer wanted (Ok t) e = e
answer wanted (Err f) e = inr e
