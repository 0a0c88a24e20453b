use Rattle.pj_session.proofs.Told.{one_list}
use Rattle.pj_session.proofs.laws.one_list_of_reports.Goals as goal

pub returns : goal.returns
returns c = one_list c.one_run.ensures
