use Rattle.pj_fitting.proofs.Fits.{left_fits}
use Rattle.pj_cache_laws.proofs.Written.{report_cold}
use Rattle.pj_cache_laws.proofs.laws.left_caches_make_cold_reports.Goals as goal

pub returns-clause-cold : goal.returns-clause-cold
returns-clause-cold c = report_cold

pub returns-clause-fits : goal.returns-clause-fits
returns-clause-fits c = λ files. left_fits files
