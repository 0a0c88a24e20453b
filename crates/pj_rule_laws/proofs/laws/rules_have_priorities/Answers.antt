use Rattle.pj_rule_laws.proofs.Priorities.{effective_priorities}
use Rattle.pj_rule_laws.proofs.laws.rules_have_priorities.Goals as goal

pub returns : goal.returns
returns c = effective_priorities
