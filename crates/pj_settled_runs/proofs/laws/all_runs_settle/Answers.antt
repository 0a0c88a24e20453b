use Rattle.pj_settled_runs.proofs.Runs.{all_runs_settle}
use Rattle.pj_settled_runs.proofs.laws.all_runs_settle.Goals as goal

pub returns : goal.returns
returns c = all_runs_settle c.folders_find_finitely.ensures c.all_replies_settle.ensures c.what_sets_mean_settles.ensures.replies
