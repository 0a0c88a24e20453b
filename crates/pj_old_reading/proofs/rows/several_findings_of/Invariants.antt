use Rattle.std.proofs.Common.{◌≡◌, ◌-◌}
use Rattle.pj_format.specs.Format.{first}
use Rattle.pj_format.specs.Fields.{several}
use Rattle.pj_format.proofs.Loops.{with_front}
use Rattle.pj_old_format.specs.FormatOne.{finding}
use Rattle.pj_old_reading.proofs.rows.several_findings_of.Given as goal

abbrev pub invariant-loop : goal.invariant-loop
invariant-loop l = with_front l.list.items (first (several finding (l.count - l.counter)) l.bytes l.place) ≡ first (several finding l.count) l.bytes l.at
