use Rattle.std.proofs.Common.{◌≡◌, ◌++◌, drop}
use Rattle.pj_types.specs.Members.{all_methods}
use Rattle.pj_overload.specs.Candidates.{candidates_from, candidates_of}
use Rattle.pj_overload.specs.Seen.{candidates_seen}
use Rattle.pj_overload.proofs.candidates.candidates_of.Given as goal

abbrev pub invariant-loop-place : goal.invariant-loop-place
invariant-loop-place l = candidates_seen l.candidates ++ candidates_from l.place (all_methods (drop l.place l.methods)) ≡ candidates_of (all_methods l.methods)
