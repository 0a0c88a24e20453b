use Rattle.std.proofs.Common.{◌≡◌, ap, ◌∙◌}
use Rattle.pj_cache_format.specs.FormatTwo.{with_more}
use Rattle.pj_cache_format.proofs.Noted.{noted_more}
use Rattle.pj_cache_format.proofs.named.note_names.Goals as goal

pub loop-result-preserved : goal.loop-result-preserved
loop-result-preserved c =
    let step : c.note_classes.new.held.keys ≡ with_more c.loop-result.held.keys c.result-item.result.names = c.in_ok-note_classes.ensures ∙ ap (with_more c.loop-result.held.keys) c.as_slice.ensures in
    noted_more (λ r. r.names) c.args.results.now c.loop-result.result-index c.result-item.result c.args.held.now.keys c.loop-result.held.keys c.note_classes.new.held.keys c.loop-result-test.true c.result-item.is c.loop-result.invariant step
