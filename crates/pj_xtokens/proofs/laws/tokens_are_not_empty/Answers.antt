use Rattle.pj_xtokens.proofs.Scanned.{spelled_length}
use Rattle.pj_xtokens.proofs.laws.tokens_are_not_empty.Goals as goal

pub returns : goal.returns
returns c = spelled_length c.scanner_follows_the_rules.ensures.told
