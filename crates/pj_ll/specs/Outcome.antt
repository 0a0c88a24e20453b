-- How a run of the parser over a list of terminals ends.
--
-- A place is a number from 0: that of the terminal there, and the number of terminals for the end.
use Rattle.std.specs.Prelude.{◌≡◌, ℕ, ◌+◌, ◌<◌, ◌≤◌, List, length, take, Some, slice_get}
use Rattle.pj_ll.specs.declared.grammar.Symbol.{Symbol}
use Rattle.pj_ll.specs.declared.parser.End.{End}
use Rattle.pj_ll.specs.declared.parser.End.TheVariants.{Whole, Stops, LeftOut, TooDeep}
use Rattle.pj_ll.specs.Grammar.{Grammar}
use Rattle.pj_ll.specs.Leads.{Behind, Derives, IsSentence, CanGoOn, IsLeftOut, IsDeeper}

-- a construct that is left out would begin with the terminal at the place
abbrev pub IsLeftOutAt : Grammar → List ℕ → ℕ → Type 0
IsLeftOutAt g ts i = (t : ℕ) × (slice_get ts i ≡ Some t) × IsLeftOut g (take i ts) t

-- more is open at the place than may be
abbrev pub IsTooDeepAt : Grammar → List ℕ → ℕ → ℕ → Type 0
IsTooDeepAt g ts deepest i = IsDeeper g (take i ts) deepest

-- at each place below, nothing is left out and the nesting is not too deep
pub record AreClearBelow (g : Grammar) (ts : List ℕ) (deepest : ℕ) (i : ℕ) : Type 0 where
  pub not_left_out : (j : ℕ) → j < i → ¬ IsLeftOutAt g ts j
  pub not_too_deep : (j : ℕ) → j < i → ¬ IsTooDeepAt g ts deepest j

-- the terminals are a sentence
pub record IsWhole (g : Grammar) (ts : List ℕ) (deepest : ℕ) : Type 0 where
  pub sentence : IsSentence g ts
  pub clear : AreClearBelow g ts deepest (length ts + 1)

-- the terminals before the place begin a sentence, but what stands there cannot follow them
pub record StopsAt (g : Grammar) (ts : List ℕ) (deepest : ℕ) (i : ℕ) : Type 0 where
  pub within : i ≤ length ts
  pub before : CanGoOn g (take i ts)
  pub terminal : i < length ts → ¬ CanGoOn g (take (i + 1) ts)
  pub at_end : i ≡ length ts → ¬ IsSentence g ts
  pub clear : AreClearBelow g ts deepest (i + 1)

-- the first place at which something is left out; nothing before it was too deep
pub record IsLeftOutFirst (g : Grammar) (ts : List ℕ) (deepest : ℕ) (i : ℕ) : Type 0 where
  pub before : CanGoOn g (take i ts)
  pub left_out : IsLeftOutAt g ts i
  pub clear : AreClearBelow g ts deepest i

-- the first place at which the nesting is too deep; nothing before it or there was left out
pub record IsTooDeepFirst (g : Grammar) (ts : List ℕ) (deepest : ℕ) (i : ℕ) : Type 0 where
  pub within : i ≤ length ts
  pub before : CanGoOn g (take i ts)
  pub deep : IsTooDeepAt g ts deepest i
  pub here : ¬ IsLeftOutAt g ts i
  pub clear : AreClearBelow g ts deepest i

abbrev pub IsEnd : Grammar → List ℕ → ℕ → End → Type 0
IsEnd g ts deepest Whole = IsWhole g ts deepest
IsEnd g ts deepest (Stops i) = StopsAt g ts deepest i
IsEnd g ts deepest (LeftOut i) = IsLeftOutFirst g ts deepest i
IsEnd g ts deepest (TooDeep i) = IsTooDeepFirst g ts deepest i

abbrev pub LeadBehind : Grammar → List ℕ → List ℕ → Type 0
LeadBehind g before productions = (ss : List Symbol) × Behind g before productions ss

-- What the productions derive: all terminals, or those before the place at which the run ended, with no production that is
-- used behind the last of them.
abbrev pub LeadTo : Grammar → List ℕ → List ℕ → End → Type 0
LeadTo g ts productions Whole = Derives g ts productions
LeadTo g ts productions (Stops i) = LeadBehind g (take i ts) productions
LeadTo g ts productions (LeftOut i) = LeadBehind g (take i ts) productions
LeadTo g ts productions (TooDeep i) = LeadBehind g (take i ts) productions
