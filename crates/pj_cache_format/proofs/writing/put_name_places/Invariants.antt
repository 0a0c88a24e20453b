use Rattle.std.proofs.Common.{◌≡◌, ◌++◌, length, take, map}
use Rattle.std.specs.List.{flat_map}
use Rattle.pj_cache_format.specs.Texts.{number}
use Rattle.pj_cache.specs.Places.{place_in}
use Rattle.pj_cache_format.proofs.writing.put_name_places.Given as goal

abbrev pub invariant-loop-name : goal.invariant-loop-name
invariant-loop-name l = l.out.items ≡ l.fn.out.items ++ (number (length l.names) ++ flat_map (λ n. number (place_in (map (λ a. a.0) l.answers) n)) (take l.name-index l.names))
