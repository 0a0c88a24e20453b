use Rattle.std.proofs.Common.{take}
use Rattle.pj_workers.proofs.Kept.{HaveRules}
use Rattle.pj_workers.proofs.laws.sets_have_rules.Given as goal

abbrev pub invariant-loop-rule : goal.invariant-loop-rule
invariant-loop-rule l = HaveRules l.rules.marker (take l.rule-index l.rules.rules)
