use Rattle.pj_fitting.proofs.Looked.{one_looked}
use Rattle.pj_fitting.proofs.laws.one_looked.Goals as goal

pub returns : goal.returns
returns g c = λ files. one_looked files
