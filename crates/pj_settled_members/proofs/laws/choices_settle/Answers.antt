use Rattle.pj_settled_members.proofs.Choosing.{choose_settles, conditional_settles}
use Rattle.pj_settled_members.proofs.laws.choices_settle.Goals as goal

pub returns-clause-methods : goal.returns-clause-methods
returns-clause-methods c = λ world methods types functions finite. choose_settles finite methods types functions

pub returns-clause-conditional : goal.returns-clause-conditional
returns-clause-conditional c = λ world second third finite. conditional_settles finite second third
