use Rattle.std.proofs.Common.{drop}
use Rattle.pj_outer_names.specs.ByName.{FindsNames}
use Rattle.pj_outer_names.proofs.file.by_name.Given as goal

abbrev pub invariant-loop-i : goal.invariant-loop-i
invariant-loop-i l = FindsNames l.by_name (drop l.i l.classes)
