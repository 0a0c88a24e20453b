use Rattle.tests_java.proofs.tree.+nest.Given as goal

abbrev pub decreases-nest : goal.decreases-nest
decreases-nest l = l.depth
