use Rattle.pj_settled_runs.proofs.Runs.{all_replies_settle}
use Rattle.pj_settled_runs.proofs.laws.all_replies_settle.Goals as goal

pub returns : goal.returns
returns c = all_replies_settle
