use Rattle.std.proofs.Common.{◌≡◌, [], take}
use Rattle.std.specs.List.{flat_map}
use Rattle.pj_cache_format.specs.FormatTwo.{with_more}
use Rattle.pj_old_reading.proofs.named.old_names_of.Given as goal

abbrev pub invariant-loop-entry : goal.invariant-loop-entry
invariant-loop-entry l = l.held.keys ≡ with_more [] (flat_map (λ e. e.names) (take l.entry-index l.entries))
