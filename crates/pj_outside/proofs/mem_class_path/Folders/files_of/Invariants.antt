use Rattle.std.proofs.Common.{◌≡◌, drop, map}
use Rattle.pj_outside.specs.Doors.{files_of}
use Rattle.pj_outside.proofs.mem_class_path.Folders.files_of.Given as goal

abbrev pub invariant-loop-folder : goal.invariant-loop-folder
invariant-loop-folder l = files_of l.self l.name ≡ files_of (map (λ pair. (pair.0, pair.1.value)) (drop l.folder-index l.folder-items)) l.name
