use Rattle.pj_type_names.specs.TypeName.{supers_of}
use Rattle.pj_settling.proofs.Comes.{settled_comes}
use Rattle.pj_settled_names.proofs.Headers.{supers_lead, type_name_settles, written_type_settles}
use Rattle.pj_settled_names.proofs.laws.names_of_types_settle.Goals as goal

pub returns-clause-supertypes : goal.returns-clause-supertypes
returns-clause-supertypes c = λ world tree busy name finite. settled_comes world (supers_of tree busy name) (supers_lead finite tree busy name).list (supers_lead finite tree busy name).comes

pub returns-clause-names : goal.returns-clause-names
returns-clause-names c = λ world tree place text finite. type_name_settles finite tree place text

pub returns-clause-written : goal.returns-clause-written
returns-clause-written c = λ world tree busy behind n finite. written_type_settles finite tree busy behind n
