-- Context-free grammars. Rule 0 is the start.
use Rattle.std.specs.Prelude.{ℕ, ◌+◌, Bool, true, false, List, [], ◌∷◌, map}
use Rattle.pj_ll.specs.declared.grammar.Symbol.{Symbol}
use Rattle.pj_ll.specs.declared.grammar.Symbol.TheVariants.{Terminal, Rule, LeftOut, Close}
use Rattle.pj_ll.specs.declared.grammar.Piece.{Piece}
use Rattle.pj_ll.specs.declared.grammar.Piece.TheVariants as p

-- a production: the rule can be replaced by the symbols
pub record Line : Type 0 where
  pub rule : ℕ
  pub symbols : List Symbol

-- the productions, by their numbers from 0
abbrev pub Grammar : Type 0
Grammar = List Line

-- a production with its select set: the terminals at which the parser chooses it, and whether it does at the end
pub record Entry : Type 0 where
  pub rule : ℕ
  pub symbols : List Symbol
  pub on : List ℕ
  pub at_end : Bool

abbrev pub line_of : Entry → Line
line_of x = record { rule = x.rule; symbols = x.symbols }

-- the grammar of the productions, whatever their select sets are
abbrev pub grammar_of : List Entry → Grammar
grammar_of entries = map line_of entries

-- the symbols of a production: those of the pieces before the next production
abbrev pub symbols_in : List Piece → List Symbol
symbols_in [] = []
symbols_in (p.Production n ∷ ps) = []
symbols_in (p.Terminal t ∷ ps) = Terminal t ∷ symbols_in ps
symbols_in (p.Rule n ∷ ps) = Rule n ∷ symbols_in ps
symbols_in (p.LeftOut t ∷ ps) = LeftOut t ∷ symbols_in ps
symbols_in (p.Close ∷ ps) = Close ∷ symbols_in ps
symbols_in (p.On t ∷ ps) = symbols_in ps
symbols_in (p.AtEnd ∷ ps) = symbols_in ps

-- the terminals of its select set
abbrev pub on_in : List Piece → List ℕ
on_in [] = []
on_in (p.Production n ∷ ps) = []
on_in (p.Terminal t ∷ ps) = on_in ps
on_in (p.Rule n ∷ ps) = on_in ps
on_in (p.LeftOut t ∷ ps) = on_in ps
on_in (p.Close ∷ ps) = on_in ps
on_in (p.On t ∷ ps) = t ∷ on_in ps
on_in (p.AtEnd ∷ ps) = on_in ps

-- whether the end is in it
abbrev pub at_end_in : List Piece → Bool
at_end_in [] = false
at_end_in (p.Production n ∷ ps) = false
at_end_in (p.Terminal t ∷ ps) = at_end_in ps
at_end_in (p.Rule n ∷ ps) = at_end_in ps
at_end_in (p.LeftOut t ∷ ps) = at_end_in ps
at_end_in (p.Close ∷ ps) = at_end_in ps
at_end_in (p.On t ∷ ps) = at_end_in ps
at_end_in (p.AtEnd ∷ ps) = true

-- The productions that pieces spell: each begins with its rule. Pieces before the first one count for nothing.
abbrev pub entries_of : List Piece → List Entry
entries_of [] = []
entries_of (p.Production n ∷ ps) = record { rule = n; symbols = symbols_in ps; on = on_in ps; at_end = at_end_in ps } ∷ entries_of ps
entries_of (p.Terminal t ∷ ps) = entries_of ps
entries_of (p.Rule n ∷ ps) = entries_of ps
entries_of (p.LeftOut t ∷ ps) = entries_of ps
entries_of (p.Close ∷ ps) = entries_of ps
entries_of (p.On t ∷ ps) = entries_of ps
entries_of (p.AtEnd ∷ ps) = entries_of ps

-- how many of the symbols mark an end of something that nests
abbrev pub closes : List Symbol → ℕ
closes [] = 0
closes (Terminal t ∷ ss) = closes ss
closes (Rule n ∷ ss) = closes ss
closes (LeftOut t ∷ ss) = closes ss
closes (Close ∷ ss) = 1 + closes ss
