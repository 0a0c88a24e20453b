use Rattle.pj_rule_keys.proofs.OldKeys.{list_key_is_old}
use Rattle.pj_rule_keys.proofs.laws.list_keys_are_of_format_one.Goals as goal

pub returns : goal.returns
returns c = list_key_is_old
