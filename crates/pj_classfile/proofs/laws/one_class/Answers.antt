use Rattle.pj_classfile.proofs.OneLaws.{one, there}
use Rattle.pj_classfile.proofs.laws.one_class.Goals as goal

pub returns-clause-there : goal.returns-clause-there
returns-clause-there c = there

pub returns-clause-one : goal.returns-clause-one
returns-clause-one c = one
