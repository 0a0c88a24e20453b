use Rattle.pj_settled_types.proofs.Expressions.{pair_settles, type_settles}
use Rattle.pj_settled_types.proofs.laws.types_of_nodes_settle.Goals as goal

pub returns-clause-types : goal.returns-clause-types
returns-clause-types c = λ world tree n finite. type_settles finite tree n

pub returns-clause-chosen : goal.returns-clause-chosen
returns-clause-chosen c = λ world tree n finite. pair_settles finite tree n
