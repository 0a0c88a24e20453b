-- The tables of the code are the grammar.
use Rattle.std.proofs.Common.{◌≡◌, refl}
use Rattle.pj_grammar.specs.Piece.{decoded}
use Rattle.pj_lex.specs.Words.{reserved_words}
use Rattle.pj_grammar.specs.declared.table.TheConstants.{PIECES, SHAPES}
use Rattle.pj_grammar.specs.Java17.{java_17, rules, java_17_forms, java_17_shapes}

pub pieces_are : decoded PIECES ≡ java_17_forms
unfolding java_17 rules java_17_forms reserved_words
pieces_are = refl

pub shapes_are : SHAPES ≡ java_17_shapes
unfolding java_17 rules java_17_shapes
shapes_are = refl
