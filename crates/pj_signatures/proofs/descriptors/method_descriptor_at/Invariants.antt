use Rattle.std.proofs.Common.{◌≡◌, [], length}
use Rattle.std.specs.Str.{IsUtf8}
use Rattle.pj_names.specs.JavaType.{type_list}
use Rattle.pj_signatures.specs.Reading.{many, not_at, put, field_at}
use Rattle.pj_signatures.proofs.descriptors.method_descriptor_at.Given as goal

abbrev pub invariant-parameters : goal.invariant-parameters
invariant-parameters l = record {
  value : many (not_at 41) (field_at l.dimensions) put [] l.initial.rest ≡ many (not_at 41) (field_at l.dimensions) put (type_list l.parameters) l.rest;
  utf8 : IsUtf8 l.rest;
}

abbrev pub decreases-parameters : goal.decreases-parameters
decreases-parameters l = length l.rest
