use Rattle.pj_settling.proofs.Searches.{under_settles}
use Rattle.pj_settling.proofs.laws.subtyping_settles.Goals as goal

pub returns : goal.returns
returns c = λ world lower upper finite. under_settles finite lower upper
