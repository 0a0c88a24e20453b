use Rattle.std.proofs.Common.{refl}
use Rattle.std.proofs.Math.Nat.{zero-add}
use Rattle.pj_xtokens.specs.Gaps.{here}
use Rattle.pj_xtokens.specs.Size.{size}
use Rattle.pj_xsyntax_laws.specs.Spaced.{spaced}
use Rattle.pj_xsyntax_laws.proofs.Placing.{tokens_from}
use Rattle.pj_xsyntax_laws.proofs.laws.spaced_words_are_tokens.Goals as goal

pub returns : goal.returns
returns c = λ words f. tokens_from c.scanner_follows_the_rules.ensures.told (size (spaced words)) 0 words (spaced words) f (here (spaced words) (spaced words) refl) (zero-add (size (spaced words)))
