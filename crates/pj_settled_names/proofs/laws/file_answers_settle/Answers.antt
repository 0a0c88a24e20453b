use Rattle.pj_settled_names.proofs.Declared.{file_answer_settles}
use Rattle.pj_settled_names.proofs.laws.file_answers_settle.Goals as goal

pub returns : goal.returns
returns c = λ world tree name finite. file_answer_settles finite tree name
