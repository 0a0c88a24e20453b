use Rattle.pj_xpatterns.proofs.SeenTrees.{patterns_by_tree}
use Rattle.pj_xpatterns.proofs.laws.trees_tell_patterns.Goals as goal

pub returns : goal.returns
returns c = patterns_by_tree
