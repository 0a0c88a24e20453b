use Rattle.pj_rule_sets.proofs.OneAnswer.{one_fault}
use Rattle.pj_rule_sets.proofs.laws.one_fault.Goals as goal

pub returns : goal.returns
returns c = one_fault c.one_answer.ensures.spelled c.one_answer.ensures.one_fault
