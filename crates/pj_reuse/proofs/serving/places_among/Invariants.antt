use Rattle.std.proofs.Common.{◌≡◌, ◌++◌, drop}
use Rattle.pj_reuse.specs.Serving.{has_key, places_from}
use Rattle.pj_reuse.proofs.serving.places_among.Given as goal

abbrev pub invariant-loop-key : goal.invariant-loop-key
invariant-loop-key l = record { put : l.places ++ places_from (has_key l.held.keys) l.place (drop l.key-index l.keys) ≡ places_from (has_key l.held.keys) 0 l.keys }
