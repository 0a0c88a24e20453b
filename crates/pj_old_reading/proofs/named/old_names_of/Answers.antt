use Rattle.std.proofs.Common.{◌≡◌, [], ap, ◌∙◌}
use Rattle.pj_cache_format.specs.FormatTwo.{with_more}
use Rattle.pj_cache_format.proofs.Noted.{noted_more}
use Rattle.pj_old_reading.proofs.named.old_names_of.Goals as goal

pub loop-entry-preserved : goal.loop-entry-preserved
loop-entry-preserved c =
    let step : c.note_names.new.held.keys ≡ with_more c.loop-entry.held.keys c.entry-item.result.names = c.in_ok-note_names.ensures ∙ ap (with_more c.loop-entry.held.keys) c.as_slice.ensures in
    noted_more (λ e. e.names) c.args.entries.now c.loop-entry.entry-index c.entry-item.result [] c.loop-entry.held.keys c.note_names.new.held.keys c.loop-entry-test.true c.entry-item.is c.loop-entry.invariant step
