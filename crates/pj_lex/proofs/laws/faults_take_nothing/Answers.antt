use Rattle.pj_lex.proofs.FaultsTakeNothing.{faults_take_nothing}
use Rattle.pj_lex.proofs.laws.faults_take_nothing.Goals as goal

pub returns : goal.returns
returns c = faults_take_nothing
