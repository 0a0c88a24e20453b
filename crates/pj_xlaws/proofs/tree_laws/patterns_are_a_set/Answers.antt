use Rattle.pj_xlaws.proofs.KnownPatterns.{denotes_by_patterns}
use Rattle.pj_xlaws.proofs.tree_laws.patterns_are_a_set.Goals as goal

pub returns : goal.returns
returns c = denotes_by_patterns
