use Rattle.std.proofs.Common.{◌≡◌, ◌+◌, List, ℕ, ◌∷◌, drop, get_or, sym, ap, ◌∙◌}
use Rattle.std.specs.BTreeSet.{insert_key}
use Rattle.std.specs.Ordering.{nat_cmp}
use Rattle.pj_cache_format.specs.FormatTwo.{with_places}
use Rattle.pj_cache_reading.proofs.Texts.{left_at}
use Rattle.pj_cache_reading.proofs.results.use_places.Goals as goal

pub loop-place-preserved : goal.loop-place-preserved
loop-place-preserved c =
    let places = c.args.places.now in
    let i = c.loop-place.place-index in
    let left : drop i places ≡ get_or places i 0 ∷ drop (i + 1) places = left_at places i c.loop-place-test.true in
    let step : c.insert.new.self.keys ≡ insert_key nat_cmp c.loop-place.used.keys (get_or places i 0) = c.in_ok-insert.ensures.keys in
    ap (λ (keys : List ℕ). with_places keys (drop (i + 1) places)) step ∙ sym (ap (with_places c.loop-place.used.keys) left) ∙ c.loop-place.invariant
