use Rattle.std.proofs.Common.{codes}
use Rattle.std.proofs.lemmas.Str.Pattern.{ends_text}
use Rattle.pj_rule_texts.proofs.reference.is_file.Goals as goal

pub returns : goal.returns
returns c = ends_text c.ends_with.result (codes ".xml") c.args.text.now c.ends_with.ensures.cases
