use Rattle.pj_check.proofs.Leaving.{left_in_order}
use Rattle.pj_check.proofs.cache.text_of_cache.Goals as goal

pub text_to_leave-requires : goal.text_to_leave-requires
text_to_leave-requires c = left_in_order c.args.found.now c.args.left.now c.in-Some-left.cache c.in-Some-left.is c.requires
