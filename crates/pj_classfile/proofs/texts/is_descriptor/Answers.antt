use Rattle.std.proofs.Common.{◌∙◌}
use Rattle.pj_signatures.specs.Reading.{descriptor_of}
use Rattle.pj_classfile.specs.Texts.{is_descriptor}
use Rattle.pj_classfile.proofs.Seen.{ty_is}
use Rattle.pj_classfile.proofs.texts.is_descriptor.Goals as goal

pub returns : goal.returns
unfolding is_descriptor
returns c = c.is_some.ensures ∙ ty_is c.in_ok-found.found (descriptor_of c.args.text.now) c.in_ok-found.ensures.read
