-- Which fault comes when, for the private clauses.
use Rattle.std.specs.Prelude.{⊤, ℕ, List}
use Rattle.pj_grammar.specs.Words.{EndsInFault}
use Rattle.pj_tree.specs.declared.shape_fault.ShapeFault.{ShapeFault}
use Rattle.pj_tree.specs.declared.shape_fault.ShapeFault.TheVariants as shape
use Rattle.pj_parse.specs.declared.fault.ParseFault.{ParseFault}
use Rattle.pj_parse.specs.declared.fault.ParseFault.TheVariants.{Lex, TooManyTokens, Syntax, TooDeep, TooMany, Memory}

abbrev pub IsFaultOfTokens : List ℕ → ParseFault → Type 0
IsFaultOfTokens text (Lex f) = EndsInFault text f
IsFaultOfTokens text (TooManyTokens n) = ⊥
IsFaultOfTokens text Syntax = ⊥
IsFaultOfTokens text (TooDeep d) = ⊥
IsFaultOfTokens text (TooMany n) = ⊥
IsFaultOfTokens text Memory = ⊤

-- why there is no tree, where it is for its shape
abbrev pub of_shape : ShapeFault → ParseFault
of_shape (shape.TooDeep depth) = TooDeep depth
of_shape (shape.TooMany count) = TooMany count
of_shape shape.Memory = Memory
