use Rattle.std.proofs.Common.{sym, ◌∙◌, ap, subst, length, List}
use Rattle.std.specs.List.{All}
use Rattle.pj_shape.specs.declared.made.Made.{Made}
use Rattle.pj_shape.specs.Flat.{flat}
use Rattle.pj_shape.specs.Writing.{IsWithin, root_of}
use Rattle.pj_shape.proofs.TreeShaping.{top, the_root, the_words, nodes_are, root_in, is_whole, made, answer}
use Rattle.pj_shape.proofs.tree.shape_derivation.Goals as goal

pub write_nodes-requires-clause-within : goal.write_nodes-requires-clause-within
write_nodes-requires-clause-within c =
    subst (λ (l : List Made). All (IsWithin (length c.args.tokens.now)) l) (sym (c.deref-2.ensures.value ∙ (c.in-Ok.ensures (top c.args.text.now c.args.tokens.now c.args.shapes.now c.args.derivation.now c.requires.root c.requires.derived).d (top c.args.text.now c.args.tokens.now c.args.shapes.now c.args.derivation.now c.requires.root c.requires.derived).steps_are ∙ ap flat (nodes_are c.args.text.now c.args.tokens.now c.args.shapes.now c.args.derivation.now c.requires.root c.requires.derived)))) (root_in c.args.text.now c.args.tokens.now c.args.shapes.now c.args.derivation.now c.requires.root c.requires.derived)

pub write_nodes-requires-clause-root : goal.write_nodes-requires-clause-root
write_nodes-requires-clause-root c = (
  the_words c.args.text.now c.args.tokens.now c.args.shapes.now c.args.derivation.now c.requires.root c.requires.derived,
  the_root c.args.text.now c.args.tokens.now c.args.shapes.now c.args.derivation.now c.requires.root c.requires.derived,
  record {
    nodes_are = c.deref-2.ensures.value ∙ (c.in-Ok.ensures (top c.args.text.now c.args.tokens.now c.args.shapes.now c.args.derivation.now c.requires.root c.requires.derived).d (top c.args.text.now c.args.tokens.now c.args.shapes.now c.args.derivation.now c.requires.root c.requires.derived).steps_are ∙ ap flat (nodes_are c.args.text.now c.args.tokens.now c.args.shapes.now c.args.derivation.now c.requires.root c.requires.derived));
    marks_are = c.deref-3.ensures.value ∙ c.in_ok-marked.ensures.value (root_of (the_root c.args.text.now c.args.tokens.now c.args.shapes.now c.args.derivation.now c.requires.root c.requires.derived)) (c.deref.ensures.value ∙ (c.in-Ok.ensures (top c.args.text.now c.args.tokens.now c.args.shapes.now c.args.derivation.now c.requires.root c.requires.derived).d (top c.args.text.now c.args.tokens.now c.args.shapes.now c.args.derivation.now c.requires.root c.requires.derived).steps_are ∙ ap flat (nodes_are c.args.text.now c.args.tokens.now c.args.shapes.now c.args.derivation.now c.requires.root c.requires.derived)));
  },
)

pub finish-requires : goal.finish-requires
finish-requires c = record {
  whole = is_whole c.args.text.now c.args.tokens.now c.args.shapes.now c.args.derivation.now c.requires.root c.requires.derived c.requires.tokens c.new-builder.ensures.calls c.new-builder.result c.write_nodes.new.builder c.new-builder.ensures.value
      (c.in_ok-write_nodes.ensures.value (the_words c.args.text.now c.args.tokens.now c.args.shapes.now c.args.derivation.now c.requires.root c.requires.derived) (the_root c.args.text.now c.args.tokens.now c.args.shapes.now c.args.derivation.now c.requires.root c.requires.derived) (record {
        nodes_are = c.deref-2.ensures.value ∙ (c.in-Ok.ensures (top c.args.text.now c.args.tokens.now c.args.shapes.now c.args.derivation.now c.requires.root c.requires.derived).d (top c.args.text.now c.args.tokens.now c.args.shapes.now c.args.derivation.now c.requires.root c.requires.derived).steps_are ∙ ap flat (nodes_are c.args.text.now c.args.tokens.now c.args.shapes.now c.args.derivation.now c.requires.root c.requires.derived));
        marks_are = c.deref-3.ensures.value ∙ c.in_ok-marked.ensures.value (root_of (the_root c.args.text.now c.args.tokens.now c.args.shapes.now c.args.derivation.now c.requires.root c.requires.derived)) (c.deref.ensures.value ∙ (c.in-Ok.ensures (top c.args.text.now c.args.tokens.now c.args.shapes.now c.args.derivation.now c.requires.root c.requires.derived).d (top c.args.text.now c.args.tokens.now c.args.shapes.now c.args.derivation.now c.requires.root c.requires.derived).steps_are ∙ ap flat (nodes_are c.args.text.now c.args.tokens.now c.args.shapes.now c.args.derivation.now c.requires.root c.requires.derived)));
      }));
}

pub returns : goal.returns
returns c = record {
  value = λ d is.
      answer _ c.finish.result
      (made c.args.text.now c.args.tokens.now c.args.shapes.now c.args.derivation.now c.requires.root c.requires.derived c.new-builder.ensures.calls c.new-builder.result c.write_nodes.new.builder c.new-builder.ensures.value
      (c.in_ok-write_nodes.ensures.value (the_words c.args.text.now c.args.tokens.now c.args.shapes.now c.args.derivation.now c.requires.root c.requires.derived) (the_root c.args.text.now c.args.tokens.now c.args.shapes.now c.args.derivation.now c.requires.root c.requires.derived) (record {
        nodes_are = c.deref-2.ensures.value ∙ (c.in-Ok.ensures (top c.args.text.now c.args.tokens.now c.args.shapes.now c.args.derivation.now c.requires.root c.requires.derived).d (top c.args.text.now c.args.tokens.now c.args.shapes.now c.args.derivation.now c.requires.root c.requires.derived).steps_are ∙ ap flat (nodes_are c.args.text.now c.args.tokens.now c.args.shapes.now c.args.derivation.now c.requires.root c.requires.derived));
        marks_are = c.deref-3.ensures.value ∙ c.in_ok-marked.ensures.value (root_of (the_root c.args.text.now c.args.tokens.now c.args.shapes.now c.args.derivation.now c.requires.root c.requires.derived)) (c.deref.ensures.value ∙ (c.in-Ok.ensures (top c.args.text.now c.args.tokens.now c.args.shapes.now c.args.derivation.now c.requires.root c.requires.derived).d (top c.args.text.now c.args.tokens.now c.args.shapes.now c.args.derivation.now c.requires.root c.requires.derived).steps_are ∙ ap flat (nodes_are c.args.text.now c.args.tokens.now c.args.shapes.now c.args.derivation.now c.requires.root c.requires.derived)));
      })) d is ∙ sym c.finish.ensures.value);
}
