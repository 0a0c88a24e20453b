use Rattle.pj_settling.proofs.Expanded.{expanded}
use Rattle.pj_settling.proofs.laws.expanded_meanings_settle.Goals as goal

pub returns : goal.returns
returns g c = λ world answer_of answers meaning settled. expanded world answer_of answers {m = meaning} settled
