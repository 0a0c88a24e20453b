use Rattle.pj_settled_runs.proofs.Folders.{folders_find_finitely}
use Rattle.pj_settled_runs.proofs.laws.folders_find_finitely.Goals as goal

pub returns : goal.returns
returns c = folders_find_finitely
