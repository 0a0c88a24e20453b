-- What the borrowed words of options hold, for private clauses.
use Rattle.std.specs.Option.{option_map}
use Rattle.pj_settings.specs.Job.{Given}
use Rattle.pj_settings.specs.declared.reading.Given as borrowed

abbrev pub given_seen : borrowed.Given → Given
given_seen g = record {
  dir = g.dir.now;
  rulesets = g.rulesets.now;
  format = g.format.now;
  classes = option_map (λ word. word.now) g.classes;
  threads = g.threads.now;
  minimum = g.minimum.now;
  marker = g.marker.now;
  cache = option_map (λ word. word.now) g.cache;
  version = g.version.now;
}
