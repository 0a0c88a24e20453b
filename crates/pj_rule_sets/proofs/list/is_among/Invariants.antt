use Rattle.std.proofs.Common.{◌≡◌, drop}
use Rattle.pj_rule_sets.specs.Lists.{is_among}
use Rattle.pj_rule_sets.proofs.list.is_among.Given as goal

abbrev pub invariant-loop-other : goal.invariant-loop-other
invariant-loop-other l = is_among l.text l.texts ≡ is_among l.text (drop l.other-index l.texts)
