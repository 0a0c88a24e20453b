use Rattle.std.proofs.Common.{◌≡◌, take, map}
use Rattle.pj_outside.specs.Doors.{solidus_for_dot}
use Rattle.pj_outside.proofs.files.class_file_path.Given as goal

abbrev pub invariant-loop-byte : goal.invariant-loop-byte
invariant-loop-byte l = l.path.items ≡ map solidus_for_dot (take l.byte-index l.name)
