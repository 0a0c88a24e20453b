-- That the actions fit the grammar: they take as many values as there are rules in the productions.
use Rattle.std.proofs.Common.{◌≡◌, ℕ, ◌+◌, List, [], ◌∷◌, map, refl}
use Rattle.pj_xgrammar.specs.XPath.{xpath, rules, xpath_grammar}
use Rattle.pj_xmeaning.specs.Actions.{actions_of, actions}
use Rattle.pj_xmeaning.specs.Slots.{slots}
use Rattle.pj_xmeaning.specs.Slots.{Slot}
use Rattle.pj_xmeaning.specs.Slots as slot
use Rattle.pj_xmeaning.specs.declared.action.Action.{Action}
use Rattle.pj_xmeaning.specs.declared.action.Action.TheVariants as action

-- how many values the action takes
abbrev pub taken : Action → ℕ
taken (action.Leaf a) = 0
taken (action.Change a) = 1
taken (action.Single a) = 1
taken (action.Rest a) = 2
taken (action.Operation a) = 2
taken (action.Binder a) = 2
taken (action.Step a) = 2
taken action.If = 3
taken action.Binding = 3

-- how many rules are among the symbols
abbrev pub rules_among : List Slot → ℕ
rules_among [] = 0
rules_among (slot.Token ∷ more) = rules_among more
rules_among (slot.Rule ∷ more) = 1 + rules_among more

-- Each production has an action, which takes as many values as there are rules in the production.
abbrev pub ActionsFit : Type 0
ActionsFit = map taken actions ≡ map (λ line. rules_among (slots line.symbols)) xpath_grammar

pub actions_fit : ActionsFit
unfolding xpath rules xpath_grammar actions_of actions
actions_fit = refl
