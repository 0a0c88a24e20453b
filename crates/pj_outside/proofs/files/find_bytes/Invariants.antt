use Rattle.std.proofs.Common.{◌≡◌, drop}
use Rattle.pj_outside.specs.Files.{bytes_at}
use Rattle.pj_outside.proofs.files.find_bytes.Given as goal

abbrev pub invariant-loop-file_path : goal.invariant-loop-file_path
invariant-loop-file_path l = bytes_at (drop l.file_path-index l.file_path-items) l.path ≡ bytes_at l.files l.path
