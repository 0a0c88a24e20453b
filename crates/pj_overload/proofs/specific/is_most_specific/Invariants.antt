use Rattle.std.proofs.Common.{drop}
use Rattle.pj_names.proofs.AskingLaws.{ComesTo}
use Rattle.pj_overload.specs.Specific.{is_most_specific}
use Rattle.pj_overload.specs.Seen.{candidate_seen, candidates_seen}
use Rattle.pj_overload.proofs.specific.is_most_specific.Given as goal

abbrev pub invariant-loop-other : goal.invariant-loop-other
invariant-loop-other g l =
    ComesTo (is_most_specific l.phase l.count (candidates_seen l.fn.candidates) (candidate_seen l.fn.candidate)) (g.O.Oracle.tells l.fn.oracle)
    (is_most_specific l.phase l.count (candidates_seen (drop l.other-index l.other-items)) (candidate_seen l.candidate)) (g.O.Oracle.tells l.oracle)
