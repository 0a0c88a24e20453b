use Rattle.std.proofs.Common.{drop}
use Rattle.pj_names.proofs.AskingLaws.{ComesTo}
use Rattle.pj_overload.specs.Inside.{AreAmong}
use Rattle.pj_overload.specs.Phases.{applicable, is_applicable}
use Rattle.pj_overload.specs.Seen.{arguments_seen, candidates_seen}
use Rattle.pj_overload.proofs.Turns.{filtered_behind}
use Rattle.pj_overload.proofs.applicable.applicable.Given as goal

abbrev pub invariant-loop-candidate : goal.invariant-loop-candidate
invariant-loop-candidate g l = record {
  so_far : ComesTo (applicable l.phase (arguments_seen l.fn.arguments) (candidates_seen l.fn.candidates)) (g.O.Oracle.tells l.fn.oracle)
      (filtered_behind (λ candidate. is_applicable l.phase (arguments_seen l.arguments) candidate) (candidates_seen l.found) (candidates_seen (drop l.candidate-index l.candidate-items))) (g.O.Oracle.tells l.oracle);
  among : AreAmong (candidates_seen l.found) (candidates_seen l.candidate-items);
}
