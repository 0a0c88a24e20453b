use Rattle.std.proofs.Common.{◌≡◌, ◌++◌, length, take}
use Rattle.std.specs.List.{flat_map}
use Rattle.pj_cache_format.specs.Texts.{number}
use Rattle.pj_cache.specs.Places.{place_in}
use Rattle.pj_cache_format.proofs.writing.put_key_places.Given as goal

abbrev pub invariant-loop-member : goal.invariant-loop-member
invariant-loop-member l = l.out.items ≡ l.fn.out.items ++ (number (length l.group) ++ flat_map (λ k. number (place_in l.keys k.key)) (take l.member-index l.group))
