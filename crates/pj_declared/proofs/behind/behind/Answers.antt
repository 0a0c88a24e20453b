use Rattle.std.proofs.Common.{sym}
use Rattle.pj_declared.proofs.Past.{behind_is}
use Rattle.pj_declared.proofs.behind.behind.Goals as goal

pub returns-clause-value : goal.returns-clause-value
returns-clause-value c =
    sym (behind_is c.args.tree.now c.args.n c.subtree_end.result.0 c.subtree_end.ensures.descendants c.subtree_end.ensures.past c.subtree_end.ensures.within)
