use Rattle.pj_workers.proofs.SomeCold.{only_types_ask, settle_by_replies, settle_without_types}
use Rattle.pj_workers.proofs.laws.what_rules_mean_settles.Goals as goal

pub returns-clause-replies : goal.returns-clause-replies
returns-clause-replies c = settle_by_replies

pub returns-clause-only_types : goal.returns-clause-only_types
returns-clause-only_types c = only_types_ask

pub returns-clause-without_types : goal.returns-clause-without_types
returns-clause-without_types c = settle_without_types
