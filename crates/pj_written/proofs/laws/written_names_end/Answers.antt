use Rattle.pj_written.proofs.Ends.{written-end}
use Rattle.pj_written.proofs.laws.written_names_end.Goals as goal

pub returns : goal.returns
returns c = λ t s n inside. written-end t s n inside
