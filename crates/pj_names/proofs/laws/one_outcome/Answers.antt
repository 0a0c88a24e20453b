use Rattle.pj_names.proofs.MeaningLaws.{means-one}
use Rattle.pj_names.proofs.laws.one_outcome.Goals as goal

pub returns : goal.returns
returns g c = λ source meaning first second here there. means-one source meaning first second here there
