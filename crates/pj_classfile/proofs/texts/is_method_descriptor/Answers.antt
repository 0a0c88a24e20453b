use Rattle.std.proofs.Common.{◌∙◌}
use Rattle.pj_signatures.specs.Reading.{method_descriptor_of}
use Rattle.pj_classfile.specs.Texts.{is_method_descriptor}
use Rattle.pj_classfile.proofs.Seen.{method_is}
use Rattle.pj_classfile.proofs.texts.is_method_descriptor.Goals as goal

pub returns : goal.returns
unfolding is_method_descriptor
returns c = c.is_some.ensures ∙ method_is c.in_ok-found.found (method_descriptor_of c.args.text.now) c.in_ok-found.ensures.read
