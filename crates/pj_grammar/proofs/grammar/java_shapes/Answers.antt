use Rattle.std.proofs.Common.{◌≡◌, List, [], ◌∷◌, Some, slice_get, subst, sym}
use Rattle.pj_grammar.specs.Java17.{java_17}
use Rattle.pj_grammar.specs.declared.rule.Rule.TheVariants.{Unit}
use Rattle.pj_shape.specs.declared.shape.Shape.{Shape}
use Rattle.pj_shape.specs.Shaped.{shape_of}
use Rattle.pj_shape.specs.ShapedTree.{MakesNode}
use Rattle.pj_grammar.proofs.grammar.java_shapes.Goals as goal

first_shape : (shapes : List Shape) (s : Shape) → slice_get shapes 0 ≡ Some s → shape_of shapes 0 ≡ s
first_shape [] s e = absurd (cc)
first_shape (x ∷ xs) s e = cc

pub returns-clause-root : goal.returns-clause-root
unfolding java_17
returns-clause-root c = subst MakesNode (sym (first_shape _ _ (c.rules_have_their_numbers.ensures.shapes Unit))) tt
