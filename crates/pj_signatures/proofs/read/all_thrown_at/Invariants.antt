use Rattle.std.proofs.Common.{◌≡◌, [], ◌≤◌, length}
use Rattle.std.specs.Str.{IsUtf8}
use Rattle.pj_names.specs.JavaType.{type_list}
use Rattle.pj_signatures.specs.Types.{types}
use Rattle.pj_signatures.specs.Reading.{many, not_empty, put, thrown_at}
use Rattle.pj_signatures.specs.Seen.{declared_of}
use Rattle.pj_signatures.proofs.read.all_thrown_at.Given as goal

abbrev pub invariant-thrown : goal.invariant-thrown
invariant-thrown l = record {
  value : many not_empty (thrown_at (types (declared_of l.declared)) 255) put [] l.text ≡ many not_empty (thrown_at (types (declared_of l.declared)) 255) put (type_list l.thrown) l.rest;
  utf8 : IsUtf8 l.rest;
  within : length l.rest ≤ length l.text;
}

abbrev pub decreases-thrown : goal.decreases-thrown
decreases-thrown l = length l.rest
