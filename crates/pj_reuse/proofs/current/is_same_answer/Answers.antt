use Rattle.pj_reuse.proofs.Equal.{told}
use Rattle.pj_reuse.proofs.current.is_same_answer.Goals as goal

pub returns : goal.returns
returns c = told c.args.first.now c.args.second.now c.is.result c.is.ensures
