use Rattle.pj_cached_files.proofs.Leaving.{is_reused}
use Rattle.pj_cached_files.proofs.laws.reused_is.Goals as goal

pub returns : goal.returns
returns c = is_reused
