use Rattle.std.proofs.Common.{◌≡◌, ◌<◌, ◌^◌, ◌++◌, length, take, map}
use Rattle.std.specs.List.{flat_map, All}
use Rattle.pj_cache_format.specs.Fitting.{FitsEntry}
use Rattle.pj_cache_format.specs.Texts.{number}
use Rattle.pj_cache_format.specs.TextTwo.{entry_text}
use Rattle.pj_cache_format.proofs.writing.put_entries.Given as goal

abbrev pub invariant-loop-entry : goal.invariant-loop-entry
invariant-loop-entry l = record { put : l.out.items ≡ l.fn.out.items ++ (number (length l.entries) ++ flat_map (entry_text l.keys (map (λ a. a.0) l.answers)) (take l.entry-index l.entries)); fit : All FitsEntry (take l.entry-index l.entries); room : length l.entries < 2 ^ 32 }
