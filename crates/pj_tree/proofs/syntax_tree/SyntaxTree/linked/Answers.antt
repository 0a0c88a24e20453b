use Rattle.pj_tree.proofs.syntax_tree.SyntaxTree.linked.Goals as goal
use Rattle.pj_tree.proofs.Seen.{nodes_seen-same}

pub returns-clause-nodes : goal.returns-clause-nodes
returns-clause-nodes c = nodes_seen-same _ _ _ _ c.link.ensures.rows c.link.ensures.tokens
