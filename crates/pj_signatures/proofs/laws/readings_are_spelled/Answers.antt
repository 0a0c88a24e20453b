use Rattle.std.specs.Prelude.{refl}
use Rattle.pj_signatures.specs.Reading.{descriptor_of, method_descriptor_of, field_signature_of, class_signature_of, method_signature_of}
use Rattle.pj_signatures.proofs.Exact.{field_exactly, method_descriptor_exactly, type_exactly, class_exactly, method_exactly}
use Rattle.pj_signatures.proofs.laws.readings_are_spelled.Goals as goal

pub returns : goal.returns
returns c = record {
  descriptors = λ text. field_exactly text (descriptor_of text) refl;
  method_descriptors = λ text. method_descriptor_exactly text (method_descriptor_of text) refl;
  types = λ declared text. type_exactly declared text (field_signature_of declared text) refl;
  classes = λ text. class_exactly text (class_signature_of text) refl;
  methods = λ around text. method_exactly around text (method_signature_of around text) refl;
}
