use Rattle.pj_overload.specs.Seen.{candidate_seen}
use Rattle.pj_overload.proofs.InsideLaws.{chosen-number}
use Rattle.pj_overload.proofs.specific.most_specific_at.Goals as goal

pub returns-clause-number : goal.returns-clause-number
returns-clause-number g c = rw c.number_if-number.ensures (chosen-number (candidate_seen c.args.candidate.now) c.in_ok-is_chosen.is_chosen)
