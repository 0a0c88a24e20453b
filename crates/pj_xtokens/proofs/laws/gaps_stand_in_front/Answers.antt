use Rattle.pj_xtokens.proofs.Reading.{past_behind}
use Rattle.pj_xtokens.proofs.laws.gaps_stand_in_front.Goals as goal

pub returns : goal.returns
returns c = past_behind
