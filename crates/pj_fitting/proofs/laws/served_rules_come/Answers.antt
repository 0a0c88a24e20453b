use Rattle.pj_fitting.proofs.Served.{served_found}
use Rattle.pj_fitting.proofs.laws.served_rules_come.Goals as goal

pub returns : goal.returns
returns g c = λ rules answers world results depth keys place rule right there e. served_found rules answers world results depth keys place rule right there e
