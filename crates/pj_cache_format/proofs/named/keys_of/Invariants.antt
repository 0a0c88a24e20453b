use Rattle.std.proofs.Common.{◌≡◌, [], take, map}
use Rattle.std.specs.List.{flat_map}
use Rattle.pj_cache_format.specs.FormatTwo.{with_more, results_of}
use Rattle.pj_cache_format.proofs.named.keys_of.Given as goal

abbrev pub invariant-loop-entry : goal.invariant-loop-entry
invariant-loop-entry l = l.held.keys ≡ with_more [] (flat_map (λ r. map (λ k. k.key) r.group) (results_of (take l.entry-index l.entries)))
