use Rattle.pj_type_names.proofs.Deep.{arguments-end}
use Rattle.pj_type_names.proofs.laws.arguments_end.Goals as goal

pub returns : goal.returns
returns c = λ t classes simple member around n. arguments-end t classes simple member around n
