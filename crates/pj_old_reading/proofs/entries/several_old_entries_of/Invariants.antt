use Rattle.std.proofs.Common.{◌≡◌, ◌-◌}
use Rattle.std.specs.Prelude.{None}
use Rattle.std.specs.Option.{option_copied}
use Rattle.pj_format.specs.Format.{first}
use Rattle.pj_format.specs.Fields.{several_from}
use Rattle.pj_format.proofs.Loops.{with_front}
use Rattle.pj_old_format.specs.FormatOne.{old_entry}
use Rattle.pj_old_reading.proofs.entries.several_old_entries_of.Given as goal

abbrev pub invariant-loop : goal.invariant-loop
invariant-loop l = with_front l.list.items (first (several_from (old_entry l.names) (l.count - l.counter) (option_copied l.before)) l.bytes l.place) ≡ first (several_from (old_entry l.names) l.count (None)) l.bytes l.at
