use Rattle.pj_overload.proofs.Chosen.{chosen-below}
use Rattle.pj_overload.proofs.laws.one_is_a_candidate.Goals as goal

pub returns : goal.returns
returns c = λ depth world methods types functions number is. chosen-below depth world methods types functions number is
