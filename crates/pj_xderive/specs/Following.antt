-- From a run of the parser over terminals to the outcome of the tokens: whether a token could stand at the place at which the run stopped, if
-- another token stood behind it, and whether a run ended where too much is open. Private clauses alone cite this.
use Rattle.std.specs.Prelude.{◌≡◌, ℕ, Bool, true, false, List, [], ◌∷◌, ◌++◌, take, nat_lt, Some, slice_get}
use Rattle.pj_ll.specs.Leads.{CanGoOn}
use Rattle.pj_ll.specs.Outcome as ll
use Rattle.pj_ll.specs.declared.parser.End.{End}
use Rattle.pj_ll.specs.declared.parser.End.TheVariants as ends
use Rattle.pj_xtokens.specs.Tokens.{Lexed}
use Rattle.pj_xgrammar.specs.declared.terminal.Behind.{Behind}
use Rattle.pj_xgrammar.specs.declared.terminal.Behind.TheVariants as b
use Rattle.pj_xgrammar.specs.Terminals.{terminal_of, terminal_number, numbers}
use Rattle.pj_xgrammar.specs.XPath.{xpath_grammar}
use Rattle.pj_xderive.specs.Expressions.{IsOutcome, LeadTo}

-- at the place stands what the token is before something
abbrev pub IsReadAt : List ℕ → ℕ → Lexed → Type 0
IsReadAt terminals place x = (behind : Behind) × (slice_get terminals place ≡ Some (terminal_number (terminal_of x behind)))

-- the terminals before the place, and then the token as it is before an ordinary name
abbrev pub terminals_with_last : List ℕ → ℕ → Lexed → List ℕ
terminals_with_last terminals place x = take place terminals ++ terminal_number (terminal_of x b.Name) ∷ []

-- these begin a sentence
abbrev pub CouldFollow : List ℕ → ℕ → Lexed → Type 0
CouldFollow terminals place x = CanGoOn xpath_grammar (terminals_with_last terminals place x)

-- a run ended behind the place
abbrev pub is_past : End → ℕ → Bool
is_past ends.Whole place = true
is_past (ends.Stops i) place = nat_lt place i
is_past (ends.LeftOut i) place = nat_lt place i
is_past (ends.TooDeep i) place = nat_lt place i

-- a run ended where too much is open
abbrev pub is_too_deep : End → Bool
is_too_deep ends.Whole = false
is_too_deep (ends.Stops i) = false
is_too_deep (ends.LeftOut i) = false
is_too_deep (ends.TooDeep i) = true

-- An outcome of the tokens, where a run over their terminals ended so; the productions of the run lead to it.
pub record HasOutcome (tokens : List Lexed) (end outcome : End) : Type 0 where
  pub is : IsOutcome tokens outcome
  pub leads : (productions : List ℕ) → ll.LeadTo xpath_grammar (numbers tokens) productions end → LeadTo tokens productions outcome
