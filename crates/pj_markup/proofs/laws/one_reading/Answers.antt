use Rattle.pj_markup.proofs.Reached.{one_reading}
use Rattle.pj_markup.proofs.laws.one_reading.Goals as goal

pub returns : goal.returns
returns c = λ text rows others a b. one_reading a.0 b.0 text rows others a.1 b.1
