use Rattle.pj_rule_laws.proofs.WrittenSizes.{read_short}
use Rattle.pj_rule_laws.proofs.laws.read_texts_are_short.Goals as goal

pub returns : goal.returns
returns c = read_short
