use Rattle.std.proofs.Common.{◌≡◌, List, [], map, ap, ◌∙◌}
use Rattle.std.specs.List.{flat_map}
use Rattle.pj_cache.specs.declared.cache.CachedResult.{CachedResult}
use Rattle.pj_cache_format.specs.FormatTwo.{with_more}
use Rattle.pj_cache_format.proofs.Noted.{noted_deep}
use Rattle.pj_cache_format.proofs.named.keys_of.Goals as goal

pub loop-entry-preserved : goal.loop-entry-preserved
loop-entry-preserved c =
    let step : c.note_keys.new.held.keys ≡ with_more c.loop-entry.held.keys (flat_map (λ r. map (λ k. k.key) r.group) c.entry-item.result.results) = c.in_ok-note_keys.ensures ∙ ap (λ (g : List CachedResult). with_more c.loop-entry.held.keys (flat_map (λ r. map (λ k. k.key) r.group) g)) c.as_slice.ensures in
    noted_deep (λ r. map (λ k. k.key) r.group) (λ e. e.results) c.args.entries.now c.loop-entry.entry-index c.entry-item.result [] c.loop-entry.held.keys c.note_keys.new.held.keys c.loop-entry-test.true c.entry-item.is c.loop-entry.invariant step
