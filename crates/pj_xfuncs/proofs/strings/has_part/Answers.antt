use Rattle.std.proofs.lemmas.Str.Pattern.{contains_text}
use Rattle.pj_xfuncs.proofs.Parts.{contains-chars}
use Rattle.pj_xfuncs.proofs.strings.has_part.Goals as goal

pub returns : goal.returns
returns c = contains-chars c.contains.result c.args.text.now c.args.part.now c.utf8.text c.utf8.part (contains_text c.contains.result c.args.part.now c.args.text.now c.contains.ensures.cases)
