use Rattle.std.proofs.Common.{◌≡◌, drop}
use Rattle.pj_outer_names.specs.Imports.{one_among}
use Rattle.pj_outer_names.proofs.imports.one_among.Given as goal

abbrev pub invariant-loop-i : goal.invariant-loop-i
invariant-loop-i l = one_among (drop l.i l.hits) ≡ one_among l.fn.hits
