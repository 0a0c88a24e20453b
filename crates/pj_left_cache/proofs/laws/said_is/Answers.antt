use Rattle.pj_left_cache.proofs.SaidLaws.{said_of_each}
use Rattle.pj_left_cache.proofs.laws.said_is.Goals as goal

pub returns : goal.returns
returns g c rules results held = said_of_each rules results held
