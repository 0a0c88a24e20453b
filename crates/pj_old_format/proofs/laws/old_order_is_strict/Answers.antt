use Rattle.pj_old_format.proofs.Split.{old_answers_sorted, old_paths_sorted}
use Rattle.pj_old_format.proofs.laws.old_order_is_strict.Goals as goal

pub returns-clause-answers : goal.returns-clause-answers
returns-clause-answers c = old_answers_sorted

pub returns-clause-entries : goal.returns-clause-entries
returns-clause-entries c = old_paths_sorted
