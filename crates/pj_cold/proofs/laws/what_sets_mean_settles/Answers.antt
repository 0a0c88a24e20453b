use Rattle.pj_cold.proofs.SomeReport.{set_settles, set_settles_without_types}
use Rattle.pj_cold.proofs.laws.what_sets_mean_settles.Goals as goal

pub returns-clause-replies : goal.returns-clause-replies
returns-clause-replies c = set_settles c.what_rules_mean_settles.ensures.replies

pub returns-clause-without_types : goal.returns-clause-without_types
returns-clause-without_types c = set_settles_without_types c.what_rules_mean_settles.ensures.without_types
