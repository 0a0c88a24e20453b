use Rattle.std.proofs.Common.{◌≡◌, drop, map, take, []}
use Rattle.pj_names.proofs.AskingLaws.{ComesTo}
use Rattle.pj_left_cache.specs.Leaving.{answers_behind}
use Rattle.pj_left_cache.proofs.leaving.answers_for.Given as goal

abbrev pub invariant-loop-name : goal.invariant-loop-name
invariant-loop-name g l =
    ComesTo (answers_behind [] l.fn.names) (g.O.Oracle.tells l.fn.oracle) (answers_behind l.answers (drop l.name-index l.names)) (g.O.Oracle.tells l.oracle)
    × (map (λ a. a.0) l.answers ≡ take l.name-index l.names)
