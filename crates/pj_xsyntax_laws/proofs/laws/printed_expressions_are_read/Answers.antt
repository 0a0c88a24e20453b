use Rattle.pj_xsyntax_laws.proofs.Reread.{printed_is_read}
use Rattle.pj_xsyntax_laws.proofs.laws.printed_expressions_are_read.Goals as goal

pub returns : goal.returns
returns c = printed_is_read c.scanner_follows_the_rules.ensures.told c.scanner_follows_the_rules.ensures.spelled
