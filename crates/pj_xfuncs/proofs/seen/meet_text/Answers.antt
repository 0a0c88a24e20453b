use Rattle.std.proofs.Common.{◌∙◌}
use Rattle.pj_xfuncs.specs.Seen.{has_text}
use Rattle.pj_xfuncs.proofs.Meeting.{text-put}
use Rattle.pj_xfuncs.proofs.seen.meet_text.Goals as goal

pub returns-clause-met : goal.returns-clause-met
returns-clause-met c = λ other. c.in_ok-insert.ensures.updates.0 (record c.args.text { now = other }) ∙ text-put c.args.text.now other (has_text c.args.texts.now other)
