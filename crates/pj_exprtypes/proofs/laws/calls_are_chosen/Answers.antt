use Rattle.pj_exprtypes.proofs.OfKinds as kinds
use Rattle.pj_exprtypes.proofs.laws.calls_are_chosen.Goals as goal

pub returns : goal.returns
returns c = λ t tree n is. kinds.calls t tree n is
