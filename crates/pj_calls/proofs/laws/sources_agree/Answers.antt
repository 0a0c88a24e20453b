use Rattle.pj_names.proofs.MeaningLaws.{agreement}
use Rattle.pj_calls.specs.Calls.{chosen}
use Rattle.pj_calls.specs.Candidates.{candidates_of}
use Rattle.pj_calls.specs.Choosing.{chosen_among}
use Rattle.pj_calls.proofs.laws.sources_agree.Goals as goal

pub returns-clause-candidates : goal.returns-clause-candidates
returns-clause-candidates c = λ first second t n receiver. agreement first second (candidates_of t n receiver)

pub returns-clause-choice : goal.returns-clause-choice
returns-clause-choice c = λ first second candidates arguments functions. agreement first second (chosen_among candidates arguments functions)

pub returns-clause-calls : goal.returns-clause-calls
returns-clause-calls c = λ first second t type_of n. agreement first second (chosen t type_of n)
