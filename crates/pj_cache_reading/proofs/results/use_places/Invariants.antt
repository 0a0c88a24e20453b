use Rattle.std.proofs.Common.{◌≡◌, drop}
use Rattle.pj_cache_format.specs.FormatTwo.{with_places}
use Rattle.pj_cache_reading.proofs.results.use_places.Given as goal

abbrev pub invariant-loop-place : goal.invariant-loop-place
invariant-loop-place l = with_places l.used.keys (drop l.place-index l.places) ≡ with_places l.fn.used.keys l.places
