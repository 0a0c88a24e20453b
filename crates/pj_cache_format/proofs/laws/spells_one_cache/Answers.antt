use Rattle.pj_cache_format.proofs.StoredLaws.{one_cache}
use Rattle.pj_cache_format.proofs.laws.spells_one_cache.Goals as goal

pub returns : goal.returns
returns c = one_cache
