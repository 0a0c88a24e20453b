use Rattle.pj_settling.proofs.Settled.{asked, first_of, for_each, given, after}
use Rattle.pj_settling.proofs.laws.made_meanings_settle.Goals as goal

pub returns-clause-value : goal.returns-clause-value
returns-clause-value g c = λ world value. given value

pub returns-clause-name : goal.returns-clause-name
returns-clause-name g c = λ world name. asked name

pub returns-clause-sequence : goal.returns-clause-sequence
returns-clause-sequence g c = λ world first next h k. after h k

pub returns-clause-members : goal.returns-clause-members
returns-clause-members g c = λ world meaning list h. for_each h list

pub returns-clause-hit : goal.returns-clause-hit
returns-clause-hit g c = λ world meaning list h. first_of h list
