use Rattle.pj_names.proofs.MeaningLaws.{means-one}
use Rattle.pj_xsteps.specs.Denotes.{denotes}
use Rattle.pj_xlaws.proofs.laws.one_thing.Goals as goal

pub returns : goal.returns
returns c a reply e context variables source first second one other = means-one source (denotes a reply e context variables) first second one other
