use Rattle.pj_cache_format.proofs.Split.{answers_sorted, paths_sorted}
use Rattle.pj_cache_format.proofs.laws.order_is_strict.Goals as goal

pub returns-clause-answers : goal.returns-clause-answers
returns-clause-answers c = answers_sorted

pub returns-clause-entries : goal.returns-clause-entries
returns-clause-entries c = paths_sorted
