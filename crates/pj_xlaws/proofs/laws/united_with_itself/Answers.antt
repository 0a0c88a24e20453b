use Rattle.pj_xlaws.proofs.Unions.{united}
use Rattle.pj_xlaws.proofs.laws.united_with_itself.Goals as goal

pub returns : goal.returns
returns c = united
