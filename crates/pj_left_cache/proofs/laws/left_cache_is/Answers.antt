use Rattle.pj_left_cache.proofs.LeavingLaws.{left_names, left_value}
use Rattle.pj_left_cache.proofs.laws.left_cache_is.Goals as goal

pub returns-clause-cache : goal.returns-clause-cache
returns-clause-cache c depth world entries = left_value depth world entries

pub returns-clause-names : goal.returns-clause-names
returns-clause-names c depth world entries = left_names depth world entries
