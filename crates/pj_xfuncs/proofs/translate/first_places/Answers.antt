use Rattle.std.proofs.Common.{arith}
use Rattle.pj_xfuncs.proofs.FirstPlaces.{places-more}
use Rattle.pj_xfuncs.proofs.translate.first_places.Goals as goal

pub loop-i-preserved : goal.loop-i-preserved
loop-i-preserved c =
    places-more c.loop-i.places c.put_first.new.places c.args.characters.now c.loop-i.i c.index-characters-i.result (omega arith) c.index-characters-i.is c.loop-i.invariant c.in_ok-put_first.ensures
