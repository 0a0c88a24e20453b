use Rattle.pj_cache_laws.proofs.Written.{set_written}
use Rattle.pj_cache_laws.proofs.laws.rules_of_sets_are_written.Goals as goal

pub returns : goal.returns
returns c = set_written
