use Rattle.pj_written.proofs.Ends.{fits-end}
use Rattle.pj_written.proofs.laws.fits_end.Goals as goal

pub returns : goal.returns
returns c = λ t around n. fits-end t around n
