use Rattle.pj_type_names.proofs.Ends.{headers-end}
use Rattle.pj_type_names.proofs.laws.headers_end.Goals as goal

pub returns : goal.returns
returns c = λ t busy name. headers-end t busy name
