use Rattle.std.proofs.Common.{◌≡◌, take}
use Rattle.pj_rule_sets.proofs.path_patterns.texts_of.Given as goal

abbrev pub invariant-loop-pattern : goal.invariant-loop-pattern
invariant-loop-pattern l = l.texts ≡ take l.pattern-index l.patterns
