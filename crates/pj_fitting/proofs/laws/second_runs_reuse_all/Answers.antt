use Rattle.pj_fitting.proofs.Again.{second_run}
use Rattle.pj_fitting.proofs.laws.second_runs_reuse_all.Goals as goal

pub returns : goal.returns
returns g c = λ files. second_run files
