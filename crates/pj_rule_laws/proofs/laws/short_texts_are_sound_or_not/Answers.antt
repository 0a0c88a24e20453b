use Rattle.pj_rule_laws.proofs.SomeSound.{settled}
use Rattle.pj_rule_laws.proofs.laws.short_texts_are_sound_or_not.Goals as goal

pub returns : goal.returns
returns c = settled c.some_answer.ensures c.some_expression.ensures
