use Rattle.std.proofs.Common.{codes, ◌∙◌}
use Rattle.pj_parse.proofs.NameLaws.{join_by-texts_of}
use Rattle.pj_parse.proofs.names.dotted.Goals as goal

pub returns : goal.returns
returns c = c.from_string.ensures ∙ c.in_ok-joined.ensures.ok ∙ join_by-texts_of (codes ".") c.args.names.now
