use Rattle.std.proofs.Common.{◌≡◌, [], ◌≤◌, length}
use Rattle.std.specs.Str.{IsUtf8}
use Rattle.pj_names.specs.JavaType.{type_list}
use Rattle.pj_signatures.specs.Types.{types}
use Rattle.pj_signatures.specs.Reading.{many, not_at, put, type_at}
use Rattle.pj_signatures.specs.Seen.{declared_of}
use Rattle.pj_signatures.proofs.read.arguments_at.Given as goal

abbrev pub invariant-arguments : goal.invariant-arguments
invariant-arguments l = record {
  value : many (not_at 41) (type_at (types (declared_of l.declared)) 255) put [] l.initial.rest ≡ many (not_at 41) (type_at (types (declared_of l.declared)) 255) put (type_list l.arguments) l.rest;
  utf8 : IsUtf8 l.rest;
  within : length l.rest ≤ length l.initial.rest;
}

abbrev pub decreases-arguments : goal.decreases-arguments
decreases-arguments l = length l.rest
