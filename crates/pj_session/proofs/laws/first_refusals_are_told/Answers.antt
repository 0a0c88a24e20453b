use Rattle.pj_session.proofs.Told.{first_told}
use Rattle.pj_session.proofs.laws.first_refusals_are_told.Goals as goal

pub returns : goal.returns
returns c = first_told c.runs_are_not_refused.ensures c.one_refusal.ensures
