use Rattle.pj_xparse.proofs.ReadFit.{read_fits}
use Rattle.pj_xparse.proofs.ReadNesting.{read_nests}
use Rattle.pj_xparse.proofs.ReadSpelling.{read_spelled}
use Rattle.pj_xparse.proofs.laws.read_expressions_fit.Goals as goal

pub returns : goal.returns
returns c = record { fits = read_fits; nesting = read_nests; spelled = read_spelled }
