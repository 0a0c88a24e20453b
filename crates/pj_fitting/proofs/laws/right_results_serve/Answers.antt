use Rattle.pj_fitting.proofs.Right.{comes_now, every_rule}
use Rattle.pj_fitting.proofs.laws.right_results_serve.Goals as goal

pub returns-clause-comes : goal.returns-clause-comes
returns-clause-comes g c = λ rules. comes_now rules

pub returns-clause-rules : goal.returns-clause-rules
returns-clause-rules g c = λ rules. every_rule rules
