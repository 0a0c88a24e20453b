use Rattle.std.proofs.Common.{◌∙◌}
use Rattle.std.proofs.lemmas.Str.Pattern.{starts_text}
use Rattle.pj_xfuncs.proofs.Parts.{starts-chars}
use Rattle.pj_xfuncs.proofs.strings.starts_with.Goals as goal

pub returns : goal.returns
returns c = starts_text c.starts_with.result c.args.part.now c.args.text.now c.starts_with.ensures.cases ∙ starts-chars c.args.text.now c.args.part.now c.utf8.text c.utf8.part
