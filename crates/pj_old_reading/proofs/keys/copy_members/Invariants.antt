use Rattle.std.proofs.Common.{◌≡◌, ◌-◌, map}
use Rattle.pj_format.specs.Format.{first}
use Rattle.pj_old_format.specs.ListKeys.{all_tested, members}
use Rattle.pj_old_reading.specs.Copied.{behind_copy, test_of}
use Rattle.pj_old_reading.proofs.keys.copy_members.Given as goal

abbrev pub invariant-loop : goal.invariant-loop
invariant-loop l = behind_copy l.copy.items (first (members (all_tested (map test_of l.tests)) (l.count - l.counter)) l.bytes l.place) ≡ behind_copy l.fn.copy.items (first (members (all_tested (map test_of l.tests)) l.count) l.bytes l.at)
