use Rattle.pj_rule_sets.proofs.OneAnswer.{sound_or_fault}
use Rattle.pj_rule_sets.proofs.laws.sound_or_fault.Goals as goal

pub returns : goal.returns
returns c = sound_or_fault c.one_answer.ensures.spelled c.one_expression.ensures c.trees_tell_patterns.ensures
