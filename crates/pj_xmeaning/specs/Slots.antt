-- The tokens and rules of the productions.
use Rattle.std.specs.Prelude.{ℕ, List, [], ◌∷◌, Option, Some, None, slice_get}
use Rattle.pj_ll.specs.declared.grammar.Symbol.{Symbol}
use Rattle.pj_ll.specs.declared.grammar.Symbol.TheVariants as symbol
use Rattle.pj_ll.specs.Grammar.{Line}
use Rattle.pj_xgrammar.specs.XPath.{xpath_grammar}

-- what a symbol of a production is for the tokens
pub data Slot : Type 0 where
  -- it takes a token
  Token : Slot
  -- it is a rule
  Rule : Slot

-- The symbols that take a token and those that are rules. The end of what nests takes no token, and what is left out derives nothing.
abbrev pub slots : List Symbol → List Slot
slots [] = []
slots (symbol.Terminal t ∷ symbols) = Token ∷ slots symbols
slots (symbol.Rule n ∷ symbols) = Rule ∷ slots symbols
slots (symbol.LeftOut t ∷ symbols) = slots symbols
slots (symbol.Close ∷ symbols) = slots symbols

abbrev pub slots_in : Option Line → List Slot
slots_in None = []
slots_in (Some line) = slots line.symbols

-- those of a production of the grammar, by its number
unfoldable pub production_slots : ℕ → List Slot
production_slots production = slots_in (slice_get xpath_grammar production)
