use Rattle.std.proofs.Common.{take}
use Rattle.pj_xfuncs.specs.Translate.{AreFirstPlaces}
use Rattle.pj_xfuncs.proofs.translate.first_places.Given as goal

abbrev pub invariant-loop-i : goal.invariant-loop-i
invariant-loop-i l = AreFirstPlaces l.places (take l.i l.characters)
