use Rattle.pj_settled_members.proofs.Tests.{called_on_settles, type_is_settles}
use Rattle.pj_settled_members.proofs.laws.type_tests_settle.Goals as goal

pub returns-clause-types : goal.returns-clause-types
returns-clause-types c = λ world text ty finite. type_is_settles finite text ty

pub returns-clause-methods : goal.returns-clause-methods
returns-clause-methods c = λ world pattern receiver parameters finite. called_on_settles finite pattern receiver parameters
