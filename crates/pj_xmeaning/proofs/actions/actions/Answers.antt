use Rattle.pj_xmeaning.proofs.SameTables.{actions_are}
use Rattle.pj_xmeaning.proofs.actions.actions.Goals as goal

pub returns : goal.returns
returns c = actions_are
