use Rattle.std.proofs.Common.{◌≡◌, [], ◌≤◌, length}
use Rattle.std.specs.Str.{IsUtf8}
use Rattle.pj_names.specs.JavaType.{bound_types}
use Rattle.pj_signatures.specs.Types.{types}
use Rattle.pj_signatures.specs.Reading.{inside, many, not_at, put, parameter_at}
use Rattle.pj_signatures.proofs.parameters.listed_parameters_at.Given as goal

abbrev pub invariant-parameters : goal.invariant-parameters
invariant-parameters l = record {
  value : many (not_at 62) (parameter_at (types []) (inside (types []) l.open_signs)) put [] l.text ≡ many (not_at 62) (parameter_at (types []) (inside (types []) l.open_signs)) put (bound_types l.parameters) l.rest;
  utf8 : IsUtf8 l.rest;
  within : length l.rest ≤ length l.text;
}

abbrev pub decreases-parameters : goal.decreases-parameters
decreases-parameters l = length l.rest
