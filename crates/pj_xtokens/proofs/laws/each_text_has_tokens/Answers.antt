use Rattle.pj_xtokens.proofs.SomeTokens.{some_tokens}
use Rattle.pj_xtokens.proofs.laws.each_text_has_tokens.Goals as goal

pub returns : goal.returns
returns c = some_tokens c.scanner_follows_the_rules.ensures.told c.scanner_follows_the_rules.ensures.spelled
