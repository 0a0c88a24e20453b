use Rattle.std.proofs.Common.{◌≡◌, [], ◌≤◌, length}
use Rattle.std.specs.Str.{IsUtf8}
use Rattle.pj_names.specs.JavaType.{type_list}
use Rattle.pj_signatures.specs.Types.{types}
use Rattle.pj_signatures.specs.Reading.{inside, many, begins, put, interface_bound_at}
use Rattle.pj_signatures.proofs.parameters.interface_bounds_at.Given as goal

abbrev pub invariant-bounds : goal.invariant-bounds
invariant-bounds l = record {
  value : many (begins 58) (interface_bound_at (types []) (inside (types []) l.open_signs)) put [] l.text ≡ many (begins 58) (interface_bound_at (types []) (inside (types []) l.open_signs)) put (type_list l.more) l.rest;
  utf8 : IsUtf8 l.rest;
  within : length l.rest ≤ length l.text;
}

abbrev pub decreases-bounds : goal.decreases-bounds
decreases-bounds l = length l.rest
