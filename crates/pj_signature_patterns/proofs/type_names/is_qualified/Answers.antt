use Rattle.std.proofs.Common.{sym, ◌∙◌}
use Rattle.pj_signature_patterns.proofs.Dotted.{last_one}
use Rattle.pj_signature_patterns.proofs.type_names.is_qualified.Goals as goal

pub returns : goal.returns
returns c = c.is_identifier-2.ensures ∙ last_one c.loop-part.left.now (sym c.in_default.ensures.value) ∙ sym c.loop-part.invariant.same
