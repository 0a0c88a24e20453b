use Rattle.std.proofs.Common.{◌≡◌, drop, map}
use Rattle.pj_format.specs.Format.{first}
use Rattle.pj_old_format.specs.ListKeys.{all_tested}
use Rattle.pj_old_reading.specs.Copied.{behind_copy, test_of}
use Rattle.pj_old_reading.proofs.keys.copy_all.Given as goal

abbrev pub invariant-loop-word : goal.invariant-loop-word
invariant-loop-word l = behind_copy l.copy.items (first (all_tested (map test_of (drop l.word-index l.tests))) l.bytes l.place) ≡ behind_copy l.fn.copy.items (first (all_tested (map test_of l.tests)) l.bytes l.at)
