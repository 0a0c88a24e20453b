use Rattle.pj_xsyntax_laws.proofs.Expanding.{written_out_spells, long_forms_spell}
use Rattle.pj_xsyntax_laws.proofs.laws.abbreviations_stand_for_longer_forms.Goals as goal

pub returns : goal.returns
returns c = record { as_deep = written_out_spells c.tokens_are_one.ensures.one; with_kind_tests = long_forms_spell }
