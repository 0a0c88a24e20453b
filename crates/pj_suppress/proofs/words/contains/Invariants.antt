use Rattle.std.proofs.Common.{◌≡◌, length}
use Rattle.pj_suppress.specs.Words.{contains}
use Rattle.pj_suppress.proofs.words.contains.Given as goal

abbrev pub invariant-loop-rest : goal.invariant-loop-rest
invariant-loop-rest l = contains l.part l.rest ≡ contains l.part l.fn.text

abbrev pub decreases-loop-rest : goal.decreases-loop-rest
decreases-loop-rest l = length l.rest
