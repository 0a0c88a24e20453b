use Rattle.pj_cache_format.proofs.Split.{whole_from}
use Rattle.pj_cache_format.proofs.StoredLaws.{text_stored}
use Rattle.pj_cache_format.proofs.laws.text_spells_its_cache.Goals as goal

pub returns : goal.returns
returns c cache order fits = text_stored cache (whole_from cache order fits)
