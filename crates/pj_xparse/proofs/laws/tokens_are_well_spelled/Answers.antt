use Rattle.pj_xparse.proofs.TextTokens.{tokens_spelled}
use Rattle.pj_xparse.proofs.laws.tokens_are_well_spelled.Goals as goal

pub returns : goal.returns
returns c = λ total text tokens end scalars read. tokens_spelled c.gaps_stand_in_front.ensures scalars read
