-- What the parser does between two terminals, and what is known where it has come to.
use Rattle.std.specs.Prelude.{◌≡◌, ℕ, ◌<◌, ◌≤◌, ⊤, true, List, [], ◌∷◌, ◌++◌, length, take, Option, Some, None, slice_get}
use Rattle.pj_ll.specs.declared.grammar.Symbol.{Symbol}
use Rattle.pj_ll.specs.declared.grammar.Symbol.TheVariants.{Terminal, Rule, LeftOut, Close}
use Rattle.pj_ll.specs.declared.parser.End.{End}
use Rattle.pj_ll.specs.declared.parser.Step.{Step}
use Rattle.pj_ll.specs.Grammar.{Entry, Grammar, grammar_of}
use Rattle.pj_ll.specs.Leads.{Leads, Behind, start}
use Rattle.pj_ll.specs.Outcome.{AreClearBelow, IsEnd, LeadTo}
use Rattle.pj_ll.specs.Predictive.{RuleFacts, fact_at, nullable_of, first_of, IsIn, HaveNoLeftOut, HaveLeftOutFirst, IsChosenAt}
use Rattle.pj_ll.specs.Steps.{ArePlaced, productions_in}
use Rattle.pj_ll.specs.Table.{IsChoice}

-- what comes next in a derivation of the terminals that leaves the symbols: a terminal, also one that is left out, or the end
abbrev pub IsNext : List ℕ → List Symbol → Option ℕ → Type 0
IsNext (t ∷ ts) after a = a ≡ Some t
IsNext [] [] a = a ≡ None
IsNext [] (Terminal t ∷ ss) a = a ≡ Some t
IsNext [] (LeftOut t ∷ ss) a = a ≡ Some t
IsNext [] (Close ∷ ss) a = ⊥
IsNext [] (Rule n ∷ ss) a = ⊥

-- the symbols are replaced and passed over as the parser does with this ahead
pub data Moves (productions : List Entry) (a : Option ℕ) : List Symbol → List ℕ → List Symbol → Type 0 where
  rests : {ss : List Symbol} → Moves productions a ss [] ss
  closes_one : {ss : List Symbol} {ps : List ℕ} {after : List Symbol} →
      Moves productions a ss ps after → Moves productions a (Close ∷ ss) ps after
  replaces : {ss : List Symbol} {ps : List ℕ} {after : List Symbol} (n p : ℕ) (x : Entry) → slice_get productions p ≡ Some x →
      x.rule ≡ n → IsChosenAt x a → Moves productions a (x.symbols ++ ss) ps after → Moves productions a (Rule n ∷ ss) (p ∷ ps) after

-- the parser moves no further with this ahead
abbrev pub IsSettled : List Entry → Option ℕ → List Symbol → Type 0
IsSettled productions a [] = ⊤
IsSettled productions a (Terminal t ∷ ss) = ⊤
IsSettled productions a (LeftOut t ∷ ss) = ⊤
IsSettled productions a (Close ∷ ss) = ⊥
IsSettled productions a (Rule n ∷ ss) = IsChoice productions n a None

-- what stands behind a rule on the stack can stand behind it
pub record IsStacked (fs : List RuleFacts) (rule : ℕ) (behind : List Symbol) : Type 0 where
  pub known : rule < length fs
  pub first : (a : ℕ) → IsIn (first_of fs behind) a → IsIn (fact_at fs rule).follow a
  pub ends : nullable_of fs behind ≡ true → (fact_at fs rule).ends ≡ true

abbrev pub AreStacked : List RuleFacts → List Symbol → Type 0
AreStacked fs [] = ⊤
AreStacked fs (Terminal t ∷ ss) = AreStacked fs ss
AreStacked fs (LeftOut t ∷ ss) = AreStacked fs ss
AreStacked fs (Close ∷ ss) = AreStacked fs ss
AreStacked fs (Rule n ∷ ss) = IsStacked fs n ss × AreStacked fs ss

-- a stack that the parser can have
pub record IsStack (fs : List RuleFacts) (ss : List Symbol) : Type 0 where
  pub stacked : AreStacked fs ss
  pub left_out : HaveLeftOutFirst ss

-- the parser moved, by productions that it wrote behind the earlier ones
pub record IsMoving (fs : List RuleFacts) (productions : List Entry) (a : Option ℕ) (ss : List Symbol) (ps : List ℕ) (ss' : List Symbol) (ps' : List ℕ) : Type 0 where
  pub moved : List ℕ
  pub productions_are : ps' ≡ ps ++ moved
  pub moves : Moves productions a ss moved ss'
  pub stack : IsStack fs ss'

-- and it moves no further
pub record HasMoved (fs : List RuleFacts) (productions : List Entry) (a : Option ℕ) (ss : List Symbol) (ps : List ℕ) (ss' : List Symbol) (ps' : List ℕ) : Type 0 where
  pub moving : IsMoving fs productions a ss ps ss' ps'
  pub settled : IsSettled productions a ss'

-- the productions led past the terminals before the place to the symbols, and each stands where it was used
pub record HasLed (g : Grammar) (ts : List ℕ) (place : ℕ) (steps : List Step) (ss : List Symbol) : Type 0 where
  pub within : place ≤ length ts
  pub leads : Leads g start (take place ts) (productions_in steps) ss
  pub placed : ArePlaced g ts steps

-- each derivation of more than the terminals begins with the productions, and goes on from the symbols
pub record IsOnlyWay (g : Grammar) (before ps : List ℕ) (ss : List Symbol) : Type 0 where
  pub goes_on : (ts qs : List ℕ) (after : List Symbol) (a : Option ℕ) → IsNext ts after a → Leads g start (before ++ ts) qs after →
      (rest : List ℕ) × (qs ≡ ps ++ rest) × Leads g ss ts rest after

-- the parser has come to the place
pub record HasComeTo (fs : List RuleFacts) (productions : List Entry) (ts : List ℕ) (deepest i : ℕ) (ss : List Symbol) (ps : List ℕ) : Type 0 where
  pub within : i ≤ length ts
  pub behind : Behind (grammar_of productions) (take i ts) ps ss
  pub only_way : IsOnlyWay (grammar_of productions) (take i ts) ps ss
  pub stacked : AreStacked fs ss
  pub kept : HaveNoLeftOut ss
  pub clear : AreClearBelow (grammar_of productions) ts deepest i

-- the run has ended so, with these productions
pub record HasEnded (productions : List Entry) (ts : List ℕ) (deepest : ℕ) (ps : List ℕ) (end : End) : Type 0 where
  pub ends : IsEnd (grammar_of productions) ts deepest end
  pub leads : LeadTo (grammar_of productions) ts ps end
