use Rattle.std.proofs.Common.{◌≡◌, ◌<◌, ◌^◌, ◌++◌, length, take, map}
use Rattle.std.specs.List.{flat_map, All}
use Rattle.pj_cache_format.specs.Fitting.{FitsResult}
use Rattle.pj_cache_format.specs.Texts.{number}
use Rattle.pj_cache_format.specs.TextTwo.{result_text}
use Rattle.pj_cache_format.proofs.writing.put_results.Given as goal

abbrev pub invariant-loop-item : goal.invariant-loop-item
invariant-loop-item l = record { put : l.out.items ≡ l.fn.out.items ++ (number (length l.items) ++ flat_map (result_text l.keys (map (λ a. a.0) l.answers)) (take l.item-index l.items)); fit : All FitsResult (take l.item-index l.items); room : length l.items < 2 ^ 32 }
