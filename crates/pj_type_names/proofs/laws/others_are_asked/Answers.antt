use Rattle.pj_type_names.proofs.Expanded.{type_name-same, written_bound-same, written_type-same}
use Rattle.pj_type_names.proofs.laws.others_are_asked.Goals as goal

pub returns-clause-names : goal.returns-clause-names
returns-clause-names c = λ t place text answer_of others. type_name-same t answer_of others place text

pub returns-clause-written : goal.returns-clause-written
returns-clause-written c = λ t busy behind n answer_of others. written_type-same t answer_of others busy behind n

pub returns-clause-bounds : goal.returns-clause-bounds
returns-clause-bounds c = λ t busy n answer_of others. written_bound-same t answer_of others busy n
