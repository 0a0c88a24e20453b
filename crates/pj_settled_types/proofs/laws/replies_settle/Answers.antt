use Rattle.pj_settled_types.proofs.Replies.{reply_settles}
use Rattle.pj_settled_types.proofs.laws.replies_settle.Goals as goal

pub returns : goal.returns
returns c = λ world tree known function at arguments finite. reply_settles finite tree known function at arguments
