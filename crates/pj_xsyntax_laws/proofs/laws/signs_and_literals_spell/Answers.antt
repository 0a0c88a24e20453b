use Rattle.pj_xsyntax_laws.proofs.SignsAndLiterals.{sign_spells, digits_spell, decimal_spells, literal_spells}
use Rattle.pj_xsyntax_laws.proofs.laws.signs_and_literals_spell.Goals as goal

pub returns : goal.returns
returns c = record { each_sign = sign_spells c.scanner_follows_the_rules.ensures.spelled; digits = digits_spell c.scanner_follows_the_rules.ensures.spelled; each_number = decimal_spells c.scanner_follows_the_rules.ensures.spelled; each_string = literal_spells c.scanner_follows_the_rules.ensures.spelled }
