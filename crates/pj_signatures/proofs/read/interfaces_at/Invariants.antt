use Rattle.std.proofs.Common.{◌≡◌, [], ◌≤◌, length}
use Rattle.std.specs.Str.{IsUtf8}
use Rattle.pj_names.specs.JavaType.{type_list}
use Rattle.pj_signatures.specs.Types.{types}
use Rattle.pj_signatures.specs.Reading.{many, not_empty, put, class_type_at}
use Rattle.pj_signatures.specs.Seen.{declared_of}
use Rattle.pj_signatures.proofs.read.interfaces_at.Given as goal

abbrev pub invariant-interfaces : goal.invariant-interfaces
invariant-interfaces l = record {
  value : many not_empty (class_type_at (types (declared_of l.declared)) 255) put [] l.text ≡ many not_empty (class_type_at (types (declared_of l.declared)) 255) put (type_list l.interfaces) l.rest;
  utf8 : IsUtf8 l.rest;
  within : length l.rest ≤ length l.text;
}

abbrev pub decreases-interfaces : goal.decreases-interfaces
decreases-interfaces l = length l.rest
