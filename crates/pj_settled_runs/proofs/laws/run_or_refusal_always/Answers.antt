use Rattle.pj_settled_runs.proofs.Runs.{run_or_refusal}
use Rattle.pj_settled_runs.proofs.laws.run_or_refusal_always.Goals as goal

pub returns : goal.returns
returns c = run_or_refusal c.some_run_or_refusal.ensures c.all_runs_settle.ensures
