use Rattle.pj_old_format.proofs.AnyLaws.{one_any}
use Rattle.pj_old_format.proofs.laws.spells_one_any_cache.Goals as goal

pub returns : goal.returns
returns c = one_any
