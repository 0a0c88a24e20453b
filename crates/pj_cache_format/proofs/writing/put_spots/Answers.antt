use Rattle.std.proofs.Common.{◌+◌, ℕ, List, length, take}
use Rattle.std.specs.List.{All}
use Rattle.std.proofs.lemmas.List.Elements.{All-more}
use Rattle.pj_reports.specs.declared.ruled.Spot.{Spot}
use Rattle.pj_cache_format.specs.Texts.{number}
use Rattle.pj_cache_format.specs.TextTwo.{spot_text}
use Rattle.pj_cache_format.proofs.Written.{one_more_at}
use Rattle.pj_cache_format.specs.Fitting.{FitsSpot}
use Rattle.pj_cache_format.proofs.writing.put_spots.Goals as goal

pub loop-spot-preserved : goal.loop-spot-preserved
loop-spot-preserved c =
    let xs = c.args.spots.now in
    let at = c.loop-spot.spot-index in
    let fit : All (FitsSpot) (take (at + 1) xs) = All-more (FitsSpot) xs at (_) c.loop-spot-test.true c.loop-spot.invariant.fit (c.in_ok-put_spot.ensures.room) in
    let text : Spot → List ℕ = λ (s : Spot). spot_text s in
    let put = one_more_at text xs at _ c.args.out.now.items (number (length xs)) c.loop-spot.out.items c.put_spot.new.out.items c.loop-spot-test.true c.loop-spot.invariant.put c.in_ok-put_spot.ensures.put in
    record { put = put; fit = fit; room = c.loop-spot.invariant.room }
