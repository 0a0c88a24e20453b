use Rattle.std.proofs.Common.{drop, map}
use Rattle.pj_names.proofs.AskingLaws.{ComesTo}
use Rattle.pj_reuse.specs.Serving.{are_kept}
use Rattle.pj_reuse.proofs.serving.are_kept.Given as goal

abbrev pub invariant-loop-name : goal.invariant-loop-name
invariant-loop-name g l =
    ComesTo (are_kept (map (λ a. (a.0, a.1.value)) l.fn.answers) l.fn.names) (g.O.Oracle.tells l.fn.oracle)
    (are_kept (map (λ a. (a.0, a.1.value)) l.answers) (drop l.name-index l.names)) (g.O.Oracle.tells l.oracle)
