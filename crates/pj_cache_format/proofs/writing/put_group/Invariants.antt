use Rattle.std.proofs.Common.{◌≡◌, ◌++◌, take}
use Rattle.std.specs.List.{flat_map, All}
use Rattle.pj_cache_format.specs.Fitting.{FitsKeyRows}
use Rattle.pj_cache_format.specs.TextTwo.{rows_text}
use Rattle.pj_cache_format.proofs.writing.put_group.Given as goal

abbrev pub invariant-loop-member : goal.invariant-loop-member
invariant-loop-member l = record { put : l.out.items ≡ l.fn.out.items ++ flat_map (λ k. rows_text k.rows) (take l.member-index l.group); fit : All FitsKeyRows (take l.member-index l.group) }
