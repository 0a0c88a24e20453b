use Rattle.pj_xmeaning.specs.Values.{said}
use Rattle.pj_xmeaning.proofs.laws.runs_say.Goals as goal

pub returns : goal.returns
returns c = λ end tokens productions ends leads. (said productions tokens, c.made_is_said.ensures end tokens productions ends leads)
