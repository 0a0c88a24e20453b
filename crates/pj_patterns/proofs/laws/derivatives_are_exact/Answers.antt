use Rattle.pj_patterns.specs.Derived.{first_of_from, first_of_to}
use Rattle.pj_patterns.proofs.laws.derivatives_are_exact.Goals as goal

pub returns-clause-from : goal.returns-clause-from
returns-clause-from c start = λ holds x rules w k f. first_of_from holds x rules w k f

pub returns-clause-to : goal.returns-clause-to
returns-clause-to c start = λ holds x rules w k f. first_of_to holds x rules w k f
