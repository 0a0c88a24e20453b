use Rattle.pj_classfile.proofs.OneLaws.{answer_there, one_answer}
use Rattle.pj_classfile.proofs.laws.one_answer.Goals as goal

pub returns-clause-there : goal.returns-clause-there
returns-clause-there c = answer_there

pub returns-clause-one : goal.returns-clause-one
returns-clause-one c = one_answer
