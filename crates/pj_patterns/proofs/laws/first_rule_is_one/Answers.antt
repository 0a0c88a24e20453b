use Rattle.pj_patterns.specs.Derived.{first_of_unique}
use Rattle.pj_patterns.proofs.laws.first_rule_is_one.Goals as goal

pub returns : goal.returns
returns c start = λ holds rules w a b f g. first_of_unique holds rules w a b f g
