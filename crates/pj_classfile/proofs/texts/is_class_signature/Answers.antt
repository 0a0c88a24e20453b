use Rattle.std.proofs.Common.{◌∙◌}
use Rattle.pj_signatures.specs.Reading.{class_signature_of}
use Rattle.pj_classfile.specs.Texts.{is_class_signature}
use Rattle.pj_classfile.proofs.Seen.{class_is}
use Rattle.pj_classfile.proofs.texts.is_class_signature.Goals as goal

pub returns : goal.returns
unfolding is_class_signature
returns c = c.is_some.ensures ∙ class_is c.in_ok-found.found (class_signature_of c.args.text.now) c.in_ok-found.ensures.read
