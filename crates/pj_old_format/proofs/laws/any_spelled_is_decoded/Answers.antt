use Rattle.pj_old_format.proofs.AnyLaws.{one_answer}
use Rattle.pj_old_format.proofs.laws.any_spelled_is_decoded.Goals as goal

pub returns : goal.returns
returns c = one_answer
