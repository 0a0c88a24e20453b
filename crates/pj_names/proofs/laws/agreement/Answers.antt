use Rattle.pj_names.proofs.MeaningLaws as laws
use Rattle.pj_names.proofs.laws.agreement.Goals as goal

pub returns-clause-outcome : goal.returns-clause-outcome
returns-clause-outcome g c = λ first second meaning. laws.agreement first second meaning

pub returns-clause-depth : goal.returns-clause-depth
returns-clause-depth g c = λ depth first second meaning. laws.agreement-at depth first second meaning
