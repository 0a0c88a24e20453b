-- What a list of pieces stands for.
use Rattle.std.specs.Prelude.{List, [], ◌∷◌, take, drop}
use Rattle.pj_peg_grammar.specs.Form.{Form, token, any, rule, seq_all, choice_all, star, maybe, ahead, not_ahead}
use Rattle.pj_grammar.specs.declared.piece.Piece.{Piece}
use Rattle.pj_grammar.specs.declared.piece.Piece.TheVariants.{Token, Any, Rule, Seq, Choice, Star, Maybe, And, Not}

-- the piece put before forms, of which it takes its parts
abbrev pub piece_on : Piece → List Form → List Form
piece_on (Token kind) fs = token kind ∷ fs
piece_on Any fs = any ∷ fs
piece_on (Rule name) fs = rule name ∷ fs
piece_on (Seq n) fs = seq_all (take n fs) ∷ drop n fs
piece_on (Choice n) fs = choice_all (take n fs) ∷ drop n fs
piece_on Star [] = []
piece_on Star (f ∷ fs) = star f ∷ fs
piece_on Maybe [] = []
piece_on Maybe (f ∷ fs) = maybe f ∷ fs
piece_on And [] = []
piece_on And (f ∷ fs) = ahead f ∷ fs
piece_on Not [] = []
piece_on Not (f ∷ fs) = not_ahead f ∷ fs

abbrev pub decoded : List Piece → List Form
decoded [] = []
decoded (p ∷ ps) = piece_on p (decoded ps)
