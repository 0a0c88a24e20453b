use Rattle.std.proofs.Common.{◌≡◌, take}
use Rattle.std.specs.List.{flat_map}
use Rattle.pj_cache_format.specs.FormatTwo.{with_more}
use Rattle.pj_cache_format.proofs.named.note_names.Given as goal

abbrev pub invariant-loop-result : goal.invariant-loop-result
invariant-loop-result l = l.held.keys ≡ with_more l.fn.held.keys (flat_map (λ r. r.names) (take l.result-index l.results))
