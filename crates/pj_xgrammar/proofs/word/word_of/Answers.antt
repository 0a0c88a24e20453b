use Rattle.std.proofs.Common.{◌∙◌, refl, ap}
use Rattle.std.specs.Str.{chars}
use Rattle.pj_base.specs.WordTable.{value_in}
use Rattle.pj_xgrammar.specs.Words.{words}
use Rattle.pj_xgrammar.proofs.Words.{row_chars}
use Rattle.pj_xgrammar.proofs.word.word_of.Goals as goal

pub returns : goal.returns
returns c = c.value_in.ensures.chars ∙ ap (λ t. value_in t (chars c.args.name.now)) (row_chars words refl)
