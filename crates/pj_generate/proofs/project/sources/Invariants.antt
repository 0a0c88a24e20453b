use Rattle.std.proofs.Common.{◌≡◌, map}
use Rattle.std.specs.List.{range_with_len}
use Rattle.pj_generate.specs.Projects.{source_row}
use Rattle.pj_generate.proofs.project.sources.Given as goal

abbrev pub invariant-loop-i : goal.invariant-loop-i
invariant-loop-i l = l.files ≡ map source_row (range_with_len 0 l.i)
