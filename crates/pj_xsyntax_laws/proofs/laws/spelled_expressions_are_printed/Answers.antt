use Rattle.pj_xsyntax_laws.proofs.Reread.{spelled_is_printed}
use Rattle.pj_xsyntax_laws.proofs.laws.spelled_expressions_are_printed.Goals as goal

pub returns : goal.returns
returns c = spelled_is_printed c.scanner_follows_the_rules.ensures.told c.scanner_follows_the_rules.ensures.spelled (record {
  fit = c.read_expressions_fit.ensures.fits;
  nest = c.read_expressions_fit.ensures.nesting;
  spelled = c.read_expressions_fit.ensures.spelled;
  tokens_spelled = c.tokens_are_well_spelled.ensures;
})
