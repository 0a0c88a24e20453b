use Rattle.pj_overload.specs.Seen.{candidates_seen}
use Rattle.pj_overload.proofs.InsideLaws.{best-among}
use Rattle.pj_overload.proofs.specific.most_specific.Goals as goal

pub returns-clause-inside : goal.returns-clause-inside
returns-clause-inside g c = rw c.one_or_tie-choice.ensures (best-among c.in_ok-best.best (candidates_seen c.args.candidates.now) c.in_ok-best.ensures.inside)
