use Rattle.pj_rule_keys.proofs.Tell.{list_keys_tell}
use Rattle.pj_rule_keys.proofs.laws.list_keys_tell_rules.Goals as goal

pub returns : goal.returns
returns c = list_keys_tell
