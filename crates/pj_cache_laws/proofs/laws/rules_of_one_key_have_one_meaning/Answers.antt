use Rattle.pj_cache_laws.proofs.Written.{one_meaning}
use Rattle.pj_cache_laws.proofs.laws.rules_of_one_key_have_one_meaning.Goals as goal

pub returns : goal.returns
returns c = one_meaning c.keys_tell_rules.ensures c.rules_are_their_texts.ensures.one
