use Rattle.pj_names.proofs.MeaningLaws.{agreement}
use Rattle.pj_xsteps.specs.Denotes.{denotes}
use Rattle.pj_xlaws.proofs.laws.by_answers.Goals as goal

pub returns : goal.returns
returns c a reply e context variables first second = agreement first second (denotes a reply e context variables)
