use Rattle.pj_literals.proofs.StripLaws.{stripping_twice}
use Rattle.pj_literals.proofs.laws.stripping_is_done_once.Goals as goal

pub returns : goal.returns
returns c = stripping_twice
