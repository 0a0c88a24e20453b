use Rattle.std.proofs.Common.{◌<◌, length}
use Rattle.std.specs.Prelude.{None}
use Rattle.pj_names.specs.Asking.{first_hit}
use Rattle.pj_names.proofs.AskingLaws.{ComesTo}
use Rattle.pj_outer_names.specs.Around.{searched}
use Rattle.pj_calls.specs.Candidates.{around, of_around}
use Rattle.pj_calls.proofs.unqualified.around.Given as goal

abbrev pub invariant-loop-class : goal.invariant-loop-class
invariant-loop-class g l = record {
  so_far :
      ComesTo (around l.fn.file l.fn.name l.fn.n) (g.O.Oracle.tells l.fn.oracle)
      (first_hit (of_around l.file l.name) (searched l.file l.inside None)) (g.O.Oracle.tells l.oracle);
  inside : l.inside.0 < length l.file.nodes;
}

abbrev pub decreases-loop-class : goal.decreases-loop-class
decreases-loop-class g l = l.inside.0
