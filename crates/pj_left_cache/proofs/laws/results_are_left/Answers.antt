use Rattle.pj_left_cache.proofs.LeftLaws.{left_from}
use Rattle.pj_left_cache.proofs.laws.results_are_left.Goals as goal

pub returns : goal.returns
returns g c rules world answers old held made results zip moved = left_from rules world answers old held made results zip moved
