use Rattle.pj_cache_laws.proofs.Written.{some_files}
use Rattle.pj_cache_laws.proofs.laws.written_rules_have_files.Goals as goal

pub returns : goal.returns
returns c = some_files c.keys_tell_rules.ensures c.rules_are_their_texts.ensures.one c.inactive_rules_mean_nothing.ensures
