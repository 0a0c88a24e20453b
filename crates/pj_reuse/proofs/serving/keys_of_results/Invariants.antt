use Rattle.std.proofs.Common.{drop, map, []}
use Rattle.pj_names.proofs.AskingLaws.{ComesTo}
use Rattle.pj_reuse.specs.Serving.{keys_of_results}
use Rattle.pj_reuse.proofs.serving.keys_of_results.Given as goal

abbrev pub invariant-loop-item : goal.invariant-loop-item
invariant-loop-item g l =
    ComesTo (keys_of_results (map (λ a. (a.0, a.1.value)) l.fn.answers) l.fn.wanted.keys [] l.fn.items) (g.O.Oracle.tells l.fn.oracle)
    (keys_of_results (map (λ a. (a.0, a.1.value)) l.answers) l.wanted.keys l.held.keys (drop l.item-index l.items)) (g.O.Oracle.tells l.oracle)
