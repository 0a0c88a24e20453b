use Rattle.std.proofs.Common.{◌≡◌, ◌++◌, ◌∷◌, [], List, length, ap, sym, ◌∙◌, arith, refl, Some, IsSome}
use Rattle.std.specs.List.{fold}
use Rattle.std.proofs.lemmas.List.{length_push}
use Rattle.pj_tree.specs.Building.{Building, after_call, opened, closed, new_node, Close}
use Rattle.pj_tree.specs.Nested.{Parts, NoMore, Child, calls_of, AreSpansOf}
use Rattle.pj_tree.specs.Tree.{IsSpanOf}
use Rattle.pj_tree.specs.declared.kind.Kind.TheVariants.{CompilationUnit}
use Rattle.pj_tree.proofs.NestedLaws.{parts-written, after_calls}
use Rattle.tests_java.proofs.tree.+nest.Goals as goal
use Rattle.tests_java.proofs.tree.+nest.Goals.{then-depth-gt1+in_ok-nest, else-depth-gt1}

-- some parts with no text were written behind a building
abbrev Written : Building → Building → Type 0
Written before after = (inside : Parts) × AreSpansOf [] inside × (after ≡ fold after_call before (calls_of inside))

no_text : IsSpanOf [] (record { from = 0; to = 0 })
no_text = record { ordered = omega arith; begins = (omega arith, λ a b. absurd (omega arith)); ends = (omega arith, λ a b. absurd (omega arith)) }

-- behind an opened node, that node is still open
still_open : (old opened' after : Building) → opened' ≡ opened old CompilationUnit 0 → Written opened' after → IsSome after.current
still_open old opened' after e w =
    let nodes : List _ = old.nodes ++ new_node CompilationUnit old.current 0 ∷ [] in
    let end : after ≡ _ = w.2 ∙ (ap (λ (b : Building). fold after_call b (calls_of w.0)) e ∙ parts-written old.text nodes (Some (record { 0 = length old.nodes })) w.0 (omega (arith, length_push old.nodes (new_node CompilationUnit old.current 0)))) in
    rw end refl

-- and a node was written once it closes
wrapped : (old opened' after shut : Building) → opened' ≡ opened old CompilationUnit 0 → Written opened' after → shut ≡ closed after 0
    → (inside : Parts) × AreSpansOf [] (Child CompilationUnit 0 inside 0 NoMore) × (shut ≡ fold after_call old (calls_of (Child CompilationUnit 0 inside 0 NoMore)))
wrapped old opened' after shut e w s =
    (w.0, (no_text, w.1, tt), s ∙ (ap (λ (b : Building). closed b 0) (w.2 ∙ ap (λ (b : Building). fold after_call b (calls_of w.0)) e) ∙ sym (after_calls (opened old CompilationUnit 0) (calls_of w.0) (Close 0 ∷ []))))

-- what the inner call wrote
inner : (old opened' after : Building) → (inside : Parts) × AreSpansOf [] (Child CompilationUnit 0 inside 0 NoMore) × (after ≡ fold after_call opened' (calls_of (Child CompilationUnit 0 inside 0 NoMore))) → Written opened' after
inner old opened' after w = (Child CompilationUnit 0 w.0 0 NoMore, w.1, w.2)

none : (opened' after : Building) → after ≡ opened' → Written opened' after
none opened' after e = (NoMore, tt, e)

pub close-requires : goal.close-requires
close-requires t c = record {
  «open» = elim c.if-depth-gt1.branch [
    | then-depth-gt1+in_ok-nest w ↦ still_open c.args.builder.now c.open.new.self c.if-depth-gt1.builder c.in_ok-open.ensures.ok (inner c.args.builder.now c.open.new.self c.if-depth-gt1.builder (rw w.builder-is w.in_ok-nest.ensures))
    | else-depth-gt1 w ↦ still_open c.args.builder.now c.open.new.self c.if-depth-gt1.builder c.in_ok-open.ensures.ok (none c.open.new.self c.if-depth-gt1.builder w.builder-is)
  ];
}

pub returns : goal.returns
returns t c = elim c.if-depth-gt1.branch [
  | then-depth-gt1+in_ok-nest w ↦ wrapped c.args.builder.now c.open.new.self c.if-depth-gt1.builder c.close.new.self c.in_ok-open.ensures.ok (inner c.args.builder.now c.open.new.self c.if-depth-gt1.builder (rw w.builder-is w.in_ok-nest.ensures)) c.close.ensures.value
  | else-depth-gt1 w ↦ wrapped c.args.builder.now c.open.new.self c.if-depth-gt1.builder c.close.new.self c.in_ok-open.ensures.ok (none c.open.new.self c.if-depth-gt1.builder w.builder-is) c.close.ensures.value
]
