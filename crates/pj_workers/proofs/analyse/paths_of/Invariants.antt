use Rattle.std.proofs.Common.{◌≡◌, map, take}
use Rattle.pj_workers.proofs.analyse.paths_of.Given as goal

abbrev pub invariant-loop-file : goal.invariant-loop-file
invariant-loop-file l = l.paths ≡ map (λ file. file.0) (take l.file-index l.files)
