use Rattle.std.proofs.Common.{◌≡◌, take, map}
use Rattle.pj_outside.specs.Doors.{files_of}
use Rattle.pj_outside.proofs.mem_class_path.MemClassPath.door_folders.Given as goal

abbrev pub invariant-loop-name : goal.invariant-loop-name
invariant-loop-name l = map (λ files. files.value) l.folders.items ≡ map (files_of l.self.folders) (take l.name-index l.name-items)
