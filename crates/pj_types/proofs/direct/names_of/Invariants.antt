use Rattle.std.proofs.Common.{◌≡◌, map, take}
use Rattle.pj_types.specs.Seen.{all_listed}
use Rattle.pj_types.specs.Supertypes.{name_of}
use Rattle.pj_types.proofs.direct.names_of.Given as goal

abbrev pub invariant-loop-class : goal.invariant-loop-class
invariant-loop-class l = l.names ≡ map name_of (all_listed (take l.class-index l.class-items))
