use Rattle.pj_fitting.proofs.OneLeft.{one_cache}
use Rattle.pj_fitting.proofs.laws.one_left_cache.Goals as goal

pub returns : goal.returns
returns g c = λ files. one_cache files
