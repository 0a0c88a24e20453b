use Rattle.std.proofs.Common.{◌≡◌, drop}
use Rattle.pj_rule_sets.specs.Active.{matches_some}
use Rattle.pj_rule_sets.proofs.path_patterns.matches_some.Given as goal

abbrev pub invariant-loop-pattern : goal.invariant-loop-pattern
invariant-loop-pattern l = matches_some l.patterns l.path ≡ matches_some (drop l.pattern-index l.patterns) l.path
