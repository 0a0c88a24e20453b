use Rattle.pj_ll.proofs.Kept.{not_left_out}
use Rattle.pj_ll.proofs.laws.derived_is_not_left_out.Goals as goal

pub returns : goal.returns
returns c = λ facts entries terminals ps i ok d. not_left_out facts entries ok terminals ps d i
