use Rattle.pj_settled_members.proofs.Members.{find_field_settles, methods_named_settle}
use Rattle.pj_settled_members.proofs.laws.members_settle.Goals as goal

pub returns-clause-fields : goal.returns-clause-fields
returns-clause-fields c = λ world class name finite. find_field_settles finite class name

pub returns-clause-methods : goal.returns-clause-methods
returns-clause-methods c = λ world class name finite. methods_named_settle finite class name
