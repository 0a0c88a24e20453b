use Rattle.pj_xmeaning.proofs.Running.{made_said}
use Rattle.pj_xmeaning.proofs.laws.made_is_said.Goals as goal

pub returns : goal.returns
returns c = made_said c.rules_have_their_numbers.ensures.rules
