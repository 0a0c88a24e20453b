use Rattle.pj_names.proofs.Held.{asked-held, noted-held}
use Rattle.pj_names.proofs.MeaningLaws.{held-means}
use Rattle.pj_names.proofs.laws.answers_are_meant.Goals as goal

pub returns-clause-noted : goal.returns-clause-noted
returns-clause-noted g c = λ meaning old new value names told asks notes. noted-held meaning old new value names told asks notes

pub returns-clause-asked : goal.returns-clause-asked
returns-clause-asked g c = λ meaning old new value told own none asks. asked-held meaning old new value told own none asks

pub returns-clause-meant : goal.returns-clause-meant
returns-clause-meant g c = λ worlds world meaning value names one held. held-means worlds world meaning value names one held
