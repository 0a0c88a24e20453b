use Rattle.pj_names.proofs.MeaningLaws.{over-whole, source_of-whole}
use Rattle.pj_names.proofs.laws.whole_is_done.Goals as goal

pub returns-clause-done : goal.returns-clause-done
returns-clause-done g c = λ depth world meaning. over-whole depth world meaning

pub returns-clause-listed : goal.returns-clause-listed
returns-clause-listed g c = λ answers name. source_of-whole answers name
