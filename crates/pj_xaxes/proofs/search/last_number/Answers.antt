use Rattle.pj_xaxes.proofs.Skips.{to_parent}
use Rattle.pj_xaxes.proofs.search.last_number.Goals as goal

pub returns-in-Ancestor-clause-none : goal.returns-in-Ancestor-clause-none
returns-in-Ancestor-clause-none c =
    to_parent c.args.tree.now c.len-count.ensures.tree c.args.axis c.args.n c.args.m c.past_parent.result c.requires.inside_n c.requires.before c.past_parent.ensures.past c.in-Ancestor.is
