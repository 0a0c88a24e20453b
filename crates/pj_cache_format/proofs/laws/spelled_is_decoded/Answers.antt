use Rattle.pj_cache_format.proofs.StoredLaws.{one_answer}
use Rattle.pj_cache_format.proofs.laws.spelled_is_decoded.Goals as goal

pub returns : goal.returns
returns c = one_answer
