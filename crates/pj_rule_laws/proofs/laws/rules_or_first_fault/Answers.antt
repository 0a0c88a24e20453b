use Rattle.pj_rule_laws.proofs.SomeLoad.{rules_or_first_fault}
use Rattle.pj_rule_laws.proofs.laws.rules_or_first_fault.Goals as goal

pub returns : goal.returns
returns c = rules_or_first_fault c.files_are_read.ensures.files c.read_texts_are_short.ensures c.short_texts_are_sound_or_not.ensures
