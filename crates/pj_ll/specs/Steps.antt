-- The productions of a leftmost derivation, with the places at which they are used.
use Rattle.std.specs.Prelude.{◌≡◌, ℕ, ◌≤◌, List, ◌∷◌, length, map, take, Some, slice_get}
use Rattle.pj_ll.specs.declared.grammar.Symbol.{Symbol}
use Rattle.pj_ll.specs.declared.grammar.Symbol.TheVariants.{Rule}
use Rattle.pj_ll.specs.declared.parser.Step.{Step}
use Rattle.pj_ll.specs.Grammar.{Grammar}
use Rattle.pj_ll.specs.Leads.{Leads, start}

-- the numbers of the productions
abbrev pub productions_in : List Step → List ℕ
productions_in steps = map (λ (s : Step). s.production) steps

-- The place at which the production behind these others is used: they lead past the terminals before it to a rule, which that production
-- replaces. That it is one of the rule's is said by where all of them lead (`LeadTo`).
pub record IsPlaced (g : Grammar) (ts before : List ℕ) (place : ℕ) : Type 0 where
  pub within : place ≤ length ts
  pub rule : ℕ
  pub behind : List Symbol
  pub leads : Leads g start (take place ts) before (Rule rule ∷ behind)

-- each production stands where it is used
pub record ArePlaced (g : Grammar) (ts : List ℕ) (steps : List Step) : Type 0 where
  pub each : (k : ℕ) (s : Step) → slice_get steps k ≡ Some s → IsPlaced g ts (take k (productions_in steps)) s.place
