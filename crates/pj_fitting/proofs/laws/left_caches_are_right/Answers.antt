use Rattle.pj_fitting.proofs.Left.{left_right}
use Rattle.pj_fitting.proofs.laws.left_caches_are_right.Goals as goal

pub returns : goal.returns
returns g c = λ files. left_right files
