use Rattle.pj_carry.proofs.Entries.{carried_right}
use Rattle.pj_carry.proofs.laws.carried_caches_are_right.Goals as goal

pub returns : goal.returns
returns g c = λ files lists merge old list. carried_right files lists merge old list
