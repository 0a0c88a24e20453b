use Rattle.pj_fitting.proofs.Unserved.{made_is_unserved, none_made}
use Rattle.pj_fitting.proofs.laws.results_are_made_where_none_serve.Goals as goal

pub returns-clause-keys : goal.returns-clause-keys
returns-clause-keys c = made_is_unserved

pub returns-clause-none : goal.returns-clause-none
returns-clause-none c = none_made
