use Rattle.pj_reuse.proofs.KeptLaws.{results_kept, names_kept}
use Rattle.pj_reuse.proofs.laws.kept_is.Goals as goal

pub returns-clause-results : goal.returns-clause-results
returns-clause-results c depth world answers results keys = results_kept depth world answers results keys

pub returns-clause-names : goal.returns-clause-names
returns-clause-names c depth world answers results keys = names_kept depth world answers results keys
