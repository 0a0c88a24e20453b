use Rattle.pj_settled_runs.proofs.Runs.{all_files_settle}
use Rattle.pj_settled_runs.proofs.laws.all_files_settle.Goals as goal

pub returns : goal.returns
returns c = all_files_settle c.what_rules_mean_settles.ensures.replies c.all_replies_settle.ensures
