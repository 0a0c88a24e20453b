use Rattle.std.proofs.Common.{◌∙◌, []}
use Rattle.pj_signatures.specs.Reading.{field_signature_of}
use Rattle.pj_classfile.specs.Texts.{is_field_signature}
use Rattle.pj_classfile.proofs.Seen.{ty_is}
use Rattle.pj_classfile.proofs.texts.is_field_signature.Goals as goal

pub returns : goal.returns
unfolding is_field_signature
returns c = c.is_some.ensures ∙ ty_is c.in_ok-found.found (field_signature_of [] c.args.text.now) c.in_ok-found.ensures.read
