use Rattle.std.proofs.Common.{◌≡◌, drop, map}
use Rattle.pj_outside.specs.Doors.{first_bytes}
use Rattle.pj_outside.proofs.mem_door.MemDoor.find_path.Given as goal

abbrev pub invariant-loop-files : goal.invariant-loop-files
invariant-loop-files l = first_bytes l.self.folders l.path ≡ first_bytes (map (λ files. files.value) (drop l.files-index l.files-items)) l.path
