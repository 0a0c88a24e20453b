use Rattle.pj_ll.proofs.Decided.{predictive_from_test}
use Rattle.pj_ll.proofs.laws.tested_tables_are_predictive.Goals as goal

pub returns : goal.returns
returns c = predictive_from_test
