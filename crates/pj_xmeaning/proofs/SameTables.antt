-- The table of the code is that of the actions.
use Rattle.std.proofs.Common.{◌≡◌, refl}
use Rattle.pj_xgrammar.specs.XPath.{rules}
use Rattle.pj_xmeaning.specs.declared.actions.TheConstants.{ACTIONS}
use Rattle.pj_xmeaning.specs.Actions.{actions_of, actions}

pub actions_are : ACTIONS ≡ actions
unfolding rules actions_of actions
actions_are = refl
