-- Texts that a class file names: what is a descriptor, JVMS 4.3, or a signature, JVMS 4.7.9.1. The readers of
-- pj_signatures answer a value for exactly these texts, and they are exactly those that its grammar spells.
use Rattle.std.specs.Prelude.{Bool, ℕ, List, [], is_some}
use Rattle.pj_signatures.specs.Reading.{descriptor_of, method_descriptor_of, class_signature_of, method_signature_of, field_signature_of}

unfoldable pub is_descriptor : List ℕ → Bool
is_descriptor text = is_some (descriptor_of text)

unfoldable pub is_method_descriptor : List ℕ → Bool
is_method_descriptor text = is_some (method_descriptor_of text)

unfoldable pub is_class_signature : List ℕ → Bool
is_class_signature text = is_some (class_signature_of text)

unfoldable pub is_method_signature : List ℕ → Bool
is_method_signature text = is_some (method_signature_of [] text)

unfoldable pub is_field_signature : List ℕ → Bool
is_field_signature text = is_some (field_signature_of [] text)
