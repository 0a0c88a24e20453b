use Rattle.pj_workers.proofs.FileLaws.{inactive}
use Rattle.pj_workers.proofs.laws.inactive_rules_mean_nothing.Goals as goal

pub returns : goal.returns
returns c = inactive
