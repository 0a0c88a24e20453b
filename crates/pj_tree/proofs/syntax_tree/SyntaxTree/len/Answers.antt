use Rattle.pj_tree.proofs.TreeLaws.{syntax_tree_is}
use Rattle.std.proofs.Common.{length, arith, sym, ap, subst}
use Rattle.pj_tree.specs.Tree.{Tree, IsSyntaxTree}
use Rattle.pj_tree.proofs.syntax_tree.SyntaxTree.len.Goals as goal
use Rattle.pj_tree.proofs.Seen.{length-nodes_seen}

pub returns-clause-value : goal.returns-clause-value
returns-clause-value c =
    omega (arith, c.len.ensures, ap (λ (t : Tree). length t.nodes) (sym c.self.view_is), length-nodes_seen c.self.inside.rows.items c.self.inside.tokens.items)

pub returns-clause-tree : goal.returns-clause-tree
returns-clause-tree c =
    subst (λ (t : Tree). IsSyntaxTree t) c.self.view_is (syntax_tree_is c.self.inside.text.now c.self.inside.rows.items c.self.inside.tokens.items c.self.invariant)
