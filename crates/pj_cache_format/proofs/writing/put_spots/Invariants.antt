use Rattle.std.proofs.Common.{◌≡◌, ◌<◌, ◌^◌, ◌++◌, length, take}
use Rattle.std.specs.List.{flat_map, All}
use Rattle.pj_cache_format.specs.Fitting.{FitsSpot}
use Rattle.pj_cache_format.specs.Texts.{number}
use Rattle.pj_cache_format.specs.TextTwo.{spot_text}
use Rattle.pj_cache_format.proofs.writing.put_spots.Given as goal

abbrev pub invariant-loop-spot : goal.invariant-loop-spot
invariant-loop-spot l = record { put : l.out.items ≡ l.fn.out.items ++ (number (length l.spots) ++ flat_map (spot_text) (take l.spot-index l.spots)); fit : All FitsSpot (take l.spot-index l.spots); room : length l.spots < 2 ^ 32 }
