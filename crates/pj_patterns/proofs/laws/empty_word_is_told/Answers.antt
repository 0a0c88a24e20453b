use Rattle.pj_patterns.specs.Derived.{spelled_from, spelled_to}
use Rattle.pj_patterns.proofs.laws.empty_word_is_told.Goals as goal

pub returns-clause-from : goal.returns-clause-from
returns-clause-from c start = λ holds rules k f. spelled_from holds rules k f

pub returns-clause-to : goal.returns-clause-to
returns-clause-to c start = λ holds rules k f. spelled_to holds rules k f
