use Rattle.pj_xmeaning.proofs.Sayings.{sayings_are_runs}
use Rattle.pj_xmeaning.proofs.laws.sayings_are_runs.Goals as goal

pub returns : goal.returns
returns c = sayings_are_runs c.rules_have_their_numbers.ensures.rules
