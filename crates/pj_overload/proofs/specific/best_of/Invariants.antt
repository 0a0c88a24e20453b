use Rattle.std.proofs.Common.{drop}
use Rattle.pj_names.proofs.AskingLaws.{ComesTo}
use Rattle.pj_names.specs.Asking.{first_hit}
use Rattle.pj_overload.specs.Specific.{best_of, most_specific_at}
use Rattle.pj_overload.specs.Seen.{candidates_seen}
use Rattle.pj_overload.proofs.specific.best_of.Given as goal

abbrev pub invariant-loop-candidate : goal.invariant-loop-candidate
invariant-loop-candidate g l =
    ComesTo (best_of l.phase l.count (candidates_seen l.fn.candidates)) (g.O.Oracle.tells l.fn.oracle)
    (first_hit (λ candidate. most_specific_at l.phase l.count (candidates_seen l.candidates) candidate) (candidates_seen (drop l.candidate-index l.candidate-items))) (g.O.Oracle.tells l.oracle)
