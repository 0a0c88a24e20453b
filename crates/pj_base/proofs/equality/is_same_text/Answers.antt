use Rattle.std.proofs.Common.{◌∙◌}
use Rattle.pj_base.proofs.Texts.{same_by_chars}
use Rattle.pj_base.proofs.equality.is_same_text.Goals as goal

pub returns-clause-chars : goal.returns-clause-chars
returns-clause-chars c = c.eq.ensures ∙ same_by_chars c.args.text.now c.args.other.now c.utf8.text c.utf8.other
