use Rattle.pj_xsyntax_laws.proofs.Gapping.{gapped_tokens, with_gaps, without_gaps}
use Rattle.pj_xsyntax_laws.proofs.Joining.{joined_tokens}
use Rattle.pj_xsyntax_laws.proofs.Texts.{same_words}
use Rattle.pj_xsyntax_laws.proofs.laws.comments_change_nothing.Goals as goal

pub returns-clause-tokens : goal.returns-clause-tokens
returns-clause-tokens c = gapped_tokens c.scanner_follows_the_rules.ensures.told

pub returns-clause-with_gaps : goal.returns-clause-with_gaps
returns-clause-with_gaps c = with_gaps c.scanner_follows_the_rules.ensures.told c.tokens_are_one.ensures.one

pub returns-clause-without_gaps : goal.returns-clause-without_gaps
returns-clause-without_gaps c = without_gaps c.scanner_follows_the_rules.ensures.told c.tokens_are_one.ensures.one

pub returns-clause-same_words : goal.returns-clause-same_words
returns-clause-same_words c = same_words c.tokens_are_one.ensures.one

pub returns-clause-joined : goal.returns-clause-joined
returns-clause-joined c = joined_tokens c.scanner_follows_the_rules.ensures.told c.scanner_follows_the_rules.ensures.spelled
