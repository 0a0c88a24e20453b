use Rattle.std.proofs.Common.{◌≡◌, ◌-◌, ◌<◌}
use Rattle.std.specs.List.{All}
use Rattle.pj_format.specs.Format.{first}
use Rattle.pj_format.specs.Fields.{several_from}
use Rattle.pj_format.proofs.Loops.{with_front}
use Rattle.pj_cache_format.specs.FormatTwo.{key_place}
use Rattle.pj_cache_reading.proofs.results.several_key_places_of.Given as goal

abbrev pub invariant-loop : goal.invariant-loop
invariant-loop l = record {
  read : with_front l.list.items (first (several_from (key_place l.key_count l.used.keys) (l.count - l.counter) l.last) l.bytes l.place) ≡ first (several_from (key_place l.key_count l.used.keys) l.count l.fn.before) l.bytes l.at;
  there : All (λ p. p < l.key_count) l.list.items;
}
