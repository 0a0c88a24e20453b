-- Parameters, looked at one after another.
use Rattle.std.proofs.Common.{◌≡◌, false, List, [], ◌∷◌, refl}
use Rattle.pj_signature_patterns.specs.declared.pattern.TypePattern.{TypePattern}
use Rattle.pj_type_tests.specs.Methods.{each_parameter_is}

pub few : (pattern : TypePattern) (patterns : List TypePattern) → each_parameter_is (pattern ∷ patterns) [] ≡ false
few pattern patterns = refl
