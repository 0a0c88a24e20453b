use Rattle.std.proofs.Common.{◌≡◌, map}
use Rattle.std.specs.List.{range_with_len}
use Rattle.pj_generate.specs.Projects.{class_row}
use Rattle.pj_generate.proofs.project.classes.Given as goal

abbrev pub invariant-loop-i : goal.invariant-loop-i
invariant-loop-i l = l.files ≡ map class_row (range_with_len 0 l.i)
