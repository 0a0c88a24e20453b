use Rattle.pj_rule_keys.proofs.Tell.{keys_tell}
use Rattle.pj_rule_keys.proofs.laws.keys_tell_rules.Goals as goal

pub returns : goal.returns
returns c = keys_tell
