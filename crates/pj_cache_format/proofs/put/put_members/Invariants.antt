use Rattle.std.proofs.Common.{◌≡◌, ◌<◌, ◌^◌, ◌++◌, length, take}
use Rattle.std.specs.List.{flat_map, All}
use Rattle.pj_cache_format.specs.Fitting.{FitsMember}
use Rattle.pj_cache_format.specs.Texts.{number, member_text}
use Rattle.pj_cache_format.proofs.put.put_members.Given as goal

abbrev pub invariant-loop-member : goal.invariant-loop-member
invariant-loop-member l = record { put : l.out.items ≡ l.fn.out.items ++ (number (length l.members) ++ flat_map (member_text) (take l.member-index l.members)); fit : All FitsMember (take l.member-index l.members); room : length l.members < 2 ^ 32 }
