use Rattle.std.proofs.Common.{◌≡◌, drop}
use Rattle.pj_outer_names.specs.Imports.{all_are}
use Rattle.pj_outer_names.proofs.imports.all_are.Given as goal

abbrev pub invariant-loop-hit : goal.invariant-loop-hit
invariant-loop-hit l = all_are l.name (drop l.hit-index l.hits) ≡ all_are l.name l.hits
