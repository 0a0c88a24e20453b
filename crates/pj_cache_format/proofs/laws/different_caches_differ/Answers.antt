use Rattle.pj_cache_format.proofs.Split.{whole_from}
use Rattle.pj_cache_format.proofs.StoredLaws.{one_text}
use Rattle.pj_cache_format.proofs.laws.different_caches_differ.Goals as goal

pub returns : goal.returns
returns c first second order fits other_order other_fits same = one_text first second (whole_from first order fits) (whole_from second other_order other_fits) same
