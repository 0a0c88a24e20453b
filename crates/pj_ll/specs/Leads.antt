-- Leftmost derivations (Aho, Lam, Sethi, Ullman, section 4.2.3), with the terminals that are taken on the way. Terminals and
-- productions are numbers from 0.
use Rattle.std.specs.Prelude.{◌≡◌, ℕ, ◌<◌, List, [], ◌∷◌, ◌++◌, Some, slice_get}
use Rattle.pj_ll.specs.declared.grammar.Symbol.{Symbol}
use Rattle.pj_ll.specs.declared.grammar.Symbol.TheVariants.{Terminal, Rule, LeftOut, Close}
use Rattle.pj_ll.specs.Grammar.{Grammar, Line, closes}

-- The symbols lead, past the terminals and by the productions, to the symbols that are then still to come: a terminal is
-- taken, the mark of an end is passed over, and a rule is replaced by the symbols of one of its productions. What is left out
-- leads nowhere.
pub data Leads (g : Grammar) : List Symbol → List ℕ → List ℕ → List Symbol → Type 0 where
  stay : {ss : List Symbol} → Leads g ss [] [] ss
  take_terminal : {ss : List Symbol} {ts ps : List ℕ} {after : List Symbol} (t : ℕ) →
      Leads g ss ts ps after → Leads g (Terminal t ∷ ss) (t ∷ ts) ps after
  close : {ss : List Symbol} {ts ps : List ℕ} {after : List Symbol} →
      Leads g ss ts ps after → Leads g (Close ∷ ss) ts ps after
  expand : {ss : List Symbol} {ts ps : List ℕ} {after : List Symbol} (n p : ℕ) (line : Line) → slice_get g p ≡ Some line →
      line.rule ≡ n → Leads g (line.symbols ++ ss) ts ps after → Leads g (Rule n ∷ ss) ts (p ∷ ps) after

-- the symbols of the start
abbrev pub start : List Symbol
start = Rule 0 ∷ []

-- the terminals are derived by the productions
abbrev pub Derives : Grammar → List ℕ → List ℕ → Type 0
Derives g terminals productions = Leads g start terminals productions []

abbrev pub IsSentence : Grammar → List ℕ → Type 0
IsSentence g terminals = (productions : List ℕ) × Derives g terminals productions

-- the terminals begin a sentence
abbrev pub CanGoOn : Grammar → List ℕ → Type 0
CanGoOn g before = (more : List ℕ) × IsSentence g (before ++ more)

-- a construct that is left out would begin with the terminal, behind those before it
abbrev pub IsLeftOut : Grammar → List ℕ → ℕ → Type 0
IsLeftOut g before t = (ps : List ℕ) × ((ss : List Symbol) × Leads g start before ps (LeftOut t ∷ ss))

-- The symbols are those that are still to come directly behind the terminals: since the last one was taken, nothing was
-- passed over and no rule replaced.
pub data Behind (g : Grammar) : List ℕ → List ℕ → List Symbol → Type 0 where
  at_start : Behind g [] [] start
  behind : {ts ps : List ℕ} {ss : List Symbol} (before : List ℕ) (t : ℕ) → ts ≡ before ++ t ∷ [] →
      Leads g start before ps (Terminal t ∷ ss) → Behind g ts ps ss

-- directly behind the terminals more than this number of things that nest are open
abbrev pub IsDeeper : Grammar → List ℕ → ℕ → Type 0
IsDeeper g before deepest = (ps : List ℕ) × ((ss : List Symbol) × Behind g before ps ss × (deepest < closes ss))
