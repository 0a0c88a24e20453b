use Rattle.std.proofs.Common.{◌≡◌, List, map, ap, ◌∙◌}
use Rattle.pj_cache.specs.declared.cache.KeyRows.{KeyRows}
use Rattle.pj_cache_format.specs.FormatTwo.{with_more}
use Rattle.pj_cache_format.proofs.Noted.{noted_more}
use Rattle.pj_cache_format.proofs.named.note_keys.Goals as goal

pub loop-result-preserved : goal.loop-result-preserved
loop-result-preserved c =
    let step : c.note_group.new.held.keys ≡ with_more c.loop-result.held.keys (map (λ k. k.key) c.result-item.result.group) = c.in_ok-note_group.ensures ∙ ap (λ (g : List KeyRows). with_more c.loop-result.held.keys (map (λ k. k.key) g)) c.as_slice.ensures in
    noted_more (λ r. map (λ k. k.key) r.group) c.args.results.now c.loop-result.result-index c.result-item.result c.args.held.now.keys c.loop-result.held.keys c.note_group.new.held.keys c.loop-result-test.true c.result-item.is c.loop-result.invariant step
