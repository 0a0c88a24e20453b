use Rattle.pj_xaxes.proofs.Siblings.{past_sibling, past_none}
use Rattle.pj_xaxes.proofs.search.past_sibling_before.Goals as goal

pub returns-in-Some : goal.returns-in-Some
returns-in-Some c = past_sibling c.args.tree.now c.args.n c.in-Some.m c.in-Some.ensures.value

pub returns-in-None : goal.returns-in-None
returns-in-None c = past_none c.args.tree.now c.args.n c.in-None.ensures.value
