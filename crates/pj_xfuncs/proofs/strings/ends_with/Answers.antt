use Rattle.std.proofs.Common.{◌∙◌}
use Rattle.std.proofs.lemmas.Str.Pattern.{ends_text}
use Rattle.pj_xfuncs.proofs.Parts.{ends-chars}
use Rattle.pj_xfuncs.proofs.strings.ends_with.Goals as goal

pub returns : goal.returns
returns c = ends_text c.ends_with.result c.args.part.now c.args.text.now c.ends_with.ensures.cases ∙ ends-chars c.args.text.now c.args.part.now c.utf8.text c.utf8.part
