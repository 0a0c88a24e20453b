use Rattle.std.proofs.Common.{arith}
use Rattle.pj_written.proofs.Dots.{split_is}
use Rattle.pj_written.proofs.names.around_last_dot.Goals as goal

pub returns : goal.returns
returns c = split_is 46 c.args.text.now c.rsplit_once.result c.rsplit_once.ensures.cases (omega arith)
