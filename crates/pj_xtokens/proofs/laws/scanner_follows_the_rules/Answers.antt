use Rattle.pj_xtokens.specs.Characters.{holds}
use Rattle.pj_xtokens.proofs.WordKinds as lemma
use Rattle.pj_xtokens.proofs.laws.scanner_follows_the_rules.Goals as goal

pub returns : goal.returns
returns c = record {
  told = lemma.told (c.derivatives_are_exact.ensures.from holds) (c.empty_word_is_told.ensures.from holds);
  spelled = lemma.spells_kind (c.derivatives_are_exact.ensures.to holds) (c.empty_word_is_told.ensures.to holds);
}
