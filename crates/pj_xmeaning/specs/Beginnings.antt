-- Where the productions of a leftmost derivation begin, and with which token.
use Rattle.std.specs.Prelude.{ℕ, List, [], ◌∷◌, ◌++◌, drop}
use Rattle.pj_ll.specs.declared.parser.Step.{Step}
use Rattle.pj_xtokens.specs.First.{behind_first}
use Rattle.pj_xtokens.specs.Tokens.{Lexed}
use Rattle.pj_xmeaning.specs.Slots.{Slot, production_slots}
use Rattle.pj_xmeaning.specs.Slots as slot

-- what is still to come: tokens and rules of productions, and the tokens of the text
pub record Ahead : Type 0 where
  pub slots : List Slot
  pub tokens : List Lexed

-- what is still to come behind the next rule, where each symbol before it that takes a token takes the next one
abbrev pub to_rule : List Slot → List Lexed → Ahead
to_rule [] tokens = record { slots = []; tokens = tokens }
to_rule (slot.Token ∷ slots) tokens = to_rule slots (behind_first tokens)
to_rule (slot.Rule ∷ slots) tokens = record { slots = slots; tokens = tokens }

-- a production of a derivation, with the tokens from the one on at which it begins
pub record Beginning : Type 0 where
  pub production : ℕ
  pub tokens : List Lexed

-- The productions of a leftmost derivation, where they begin: the next rule is replaced by the symbols of the next production.
abbrev pub beginnings : List ℕ → List Slot → List Lexed → List Beginning
beginnings [] slots tokens = []
beginnings (production ∷ more) slots tokens =
    record { production = production; tokens = (to_rule slots tokens).tokens }
    ∷ beginnings more (production_slots production ++ (to_rule slots tokens).slots) (to_rule slots tokens).tokens

-- where a production of a run begins, which stands at a place
abbrev pub beginning_at : List Lexed → Step → Beginning
beginning_at tokens step = record { production = step.production; tokens = drop step.place tokens }
