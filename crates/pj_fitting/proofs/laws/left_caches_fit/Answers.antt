use Rattle.pj_fitting.proofs.Fits.{left_fits}
use Rattle.pj_fitting.proofs.laws.left_caches_fit.Goals as goal

pub returns : goal.returns
returns g c = λ files. left_fits files
