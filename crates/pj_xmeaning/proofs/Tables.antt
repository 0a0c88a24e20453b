-- What stands in the table of actions at a number.
use Rattle.std.proofs.Common.{◌≡◌, ◌∙◌, ℕ, List, Option, ap, sym}
use Rattle.std.specs.Prelude.{slice_get}
use Rattle.pj_xmeaning.specs.Actions.{action_in, action_of, actions}
use Rattle.pj_xmeaning.specs.declared.action.Action.{Action}

pub action_at : (table : List Action) (n : ℕ) (found : Option Action) → table ≡ actions → slice_get table n ≡ found → action_in found ≡ action_of n
unfolding action_of
action_at table n found same is = sym (ap action_in (ap (λ l. slice_get l n) (sym same) ∙ is))
