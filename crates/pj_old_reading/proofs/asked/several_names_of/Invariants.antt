use Rattle.std.proofs.Common.{◌≡◌, ◌-◌}
use Rattle.std.specs.Prelude.{None}
use Rattle.pj_format.specs.Format.{first}
use Rattle.pj_format.specs.Fields.{several_from}
use Rattle.pj_format.proofs.Loops.{with_front}
use Rattle.pj_cache_format.specs.FormatTwo.{name_at}
use Rattle.pj_old_reading.proofs.asked.several_names_of.Given as goal

abbrev pub invariant-loop : goal.invariant-loop
invariant-loop l = with_front l.list.items (first (several_from (name_at l.names) (l.count - l.counter) (l.before)) l.bytes l.place) ≡ first (several_from (name_at l.names) l.count (None)) l.bytes l.at
