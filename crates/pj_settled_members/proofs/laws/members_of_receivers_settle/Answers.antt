use Rattle.pj_settled_members.proofs.Receivers.{field_of_receiver_settles, methods_of_receiver_settle, supertype_of_receiver_settles}
use Rattle.pj_settled_members.proofs.laws.members_of_receivers_settle.Goals as goal

pub returns-clause-fields : goal.returns-clause-fields
returns-clause-fields c = λ world class arguments name finite. field_of_receiver_settles finite class arguments name

pub returns-clause-methods : goal.returns-clause-methods
returns-clause-methods c = λ world class arguments name finite. methods_of_receiver_settle finite class arguments name

pub returns-clause-supertypes : goal.returns-clause-supertypes
returns-clause-supertypes c = λ world class arguments wanted finite. supertype_of_receiver_settles finite class arguments wanted
