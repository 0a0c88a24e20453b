use Rattle.pj_xlaws.proofs.DenotedTrees.{denotes_by_tree}
use Rattle.pj_xlaws.proofs.tree_laws.trees_tell_expressions.Goals as goal

pub returns : goal.returns
returns c = denotes_by_tree
