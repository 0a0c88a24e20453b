use Rattle.std.proofs.Common.{drop, map, []}
use Rattle.pj_names.proofs.AskingLaws.{ComesTo}
use Rattle.pj_reuse.specs.Serving.{kept_behind}
use Rattle.pj_reuse.proofs.keeping.kept_among.Given as goal

abbrev pub invariant-loop-item : goal.invariant-loop-item
invariant-loop-item g l =
    ComesTo (kept_behind (map (λ a. (a.0, a.1.value)) l.fn.answers) l.fn.wanted.keys [] l.fn.items) (g.O.Oracle.tells l.fn.oracle)
    (kept_behind (map (λ a. (a.0, a.1.value)) l.answers) l.wanted.keys l.held (drop l.item-index l.items)) (g.O.Oracle.tells l.oracle)
