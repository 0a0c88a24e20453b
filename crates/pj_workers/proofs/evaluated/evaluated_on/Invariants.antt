use Rattle.std.proofs.Common.{◌≡◌, flat_map, take}
use Rattle.pj_workers.proofs.Ran.{ran_of}
use Rattle.pj_workers.proofs.evaluated.evaluated_on.Given as goal

abbrev pub invariant-loop-of_file : goal.invariant-loop-of_file
invariant-loop-of_file l = l.ran ≡ flat_map (ran_of l.rules) (take l.of_file-index l.found)
