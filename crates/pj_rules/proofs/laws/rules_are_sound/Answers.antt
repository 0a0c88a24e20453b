use Rattle.pj_rules.proofs.SoundRules.{effective_sound}
use Rattle.pj_rules.proofs.laws.rules_are_sound.Goals as goal

pub returns : goal.returns
returns c = effective_sound
