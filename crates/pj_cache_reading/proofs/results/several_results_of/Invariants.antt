use Rattle.std.proofs.Common.{◌≡◌, ◌-◌}
use Rattle.std.specs.Prelude.{None, []}
use Rattle.pj_format.specs.Format.{first}
use Rattle.pj_format.specs.Fields.{several_from}
use Rattle.pj_format.proofs.Loops.{with_front}
use Rattle.pj_cache_format.specs.FormatTwo.{result as result_format}
use Rattle.pj_cache_reading.proofs.results.several_results_of.Given as goal

abbrev pub invariant-loop : goal.invariant-loop
invariant-loop l = with_front l.list.items (first (several_from (result_format l.keys l.names) (l.count - l.counter) ((l.before, l.used.keys))) l.bytes l.place) ≡ first (several_from (result_format l.keys l.names) l.count ((None, []))) l.bytes l.at
