use Rattle.pj_crew.specs.Together.{first_world}
use Rattle.pj_shared_files.proofs.together.files_together.Given as goal

abbrev pub ghosts-files_known : goal.ghosts-files_known
ghosts-files_known g a = record { world = first_world g.D.ClassDoor.holds a.doors.now.items }
