-- The stack of the parser.
use Rattle.std.specs.Prelude.{List, [], ◌∷◌}
use Rattle.pj_ll.specs.declared.grammar.Symbol.{Symbol}

-- the symbols without the first one
abbrev pub behind_top : List Symbol → List Symbol
behind_top [] = []
behind_top (s ∷ ss) = ss
