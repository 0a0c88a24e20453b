use Rattle.std.proofs.Common.{◌≡◌, ◌-◌}
use Rattle.pj_format.specs.Format.{first}
use Rattle.pj_old_format.specs.ListKeys.{members, rule}
use Rattle.pj_old_reading.specs.Copied.{behind_copy}
use Rattle.pj_old_reading.proofs.keys.copy_rules.Given as goal

abbrev pub invariant-loop : goal.invariant-loop
invariant-loop l = behind_copy l.copy.items (first (members rule (l.count - l.counter)) l.bytes l.place) ≡ behind_copy l.fn.copy.items (first (members rule l.count) l.bytes l.at)
