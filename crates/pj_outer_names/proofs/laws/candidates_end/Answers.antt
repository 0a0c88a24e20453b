use Rattle.pj_outer_names.proofs.Ends.{candidates-end}
use Rattle.pj_outer_names.proofs.laws.candidates_end.Goals as goal

pub returns : goal.returns
returns c = λ text. candidates-end text
