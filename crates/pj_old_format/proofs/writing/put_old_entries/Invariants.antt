use Rattle.std.proofs.Common.{◌≡◌, ◌<◌, ◌^◌, ◌++◌, length, take, map}
use Rattle.std.specs.List.{flat_map, All}
use Rattle.pj_cache_format.specs.Texts.{number}
use Rattle.pj_old_format.specs.TextOne.{old_entry_text}
use Rattle.pj_old_format.specs.FittingOne.{FitsOldEntry}
use Rattle.pj_old_format.proofs.writing.put_old_entries.Given as goal

abbrev pub invariant-loop-entry : goal.invariant-loop-entry
invariant-loop-entry l = record { put : l.out.items ≡ l.fn.out.items ++ (number (length l.entries) ++ flat_map (old_entry_text (map (λ a. a.0) l.answers)) (take l.entry-index l.entries)); fit : All FitsOldEntry (take l.entry-index l.entries); room : length l.entries < 2 ^ 32 }
