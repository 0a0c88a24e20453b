-- Whether a method is as a signature pattern says.
use Rattle.std.specs.Prelude.{ℕ, Bool, true, false, ◌&&◌, List, [], ◌∷◌, codes, nat_eq}
use Rattle.std.specs.Cmp.Lexicographic.{pointwise}
use Rattle.pj_names.specs.JavaType.{JavaType}
use Rattle.pj_names.specs.Asking.{Asking, Return, bind}
use Rattle.pj_signature_patterns.specs.declared.pattern.TypePattern.{TypePattern}
use Rattle.pj_signature_patterns.specs.declared.pattern.TypePattern.TheVariants as t
use Rattle.pj_signature_patterns.specs.declared.pattern.MethodPattern.{MethodPattern}
use Rattle.pj_signature_patterns.specs.declared.pattern.MethodPattern.TheVariants as m
use Rattle.pj_signature_patterns.specs.declared.pattern.ParametersPattern.{ParametersPattern}
use Rattle.pj_signature_patterns.specs.declared.pattern.ParametersPattern.TheVariants as p
use Rattle.pj_signature_patterns.specs.declared.pattern.SigPattern.{SigPattern}
use Rattle.pj_type_tests.specs.Names.{has_name}
use Rattle.pj_type_tests.specs.Types.{type_is}

-- whether a method is of the name; the name of a constructor is `<init>`
abbrev pub is_method_named : MethodPattern → List ℕ → Bool
is_method_named m.Any name = true
is_method_named m.Constructor name = pointwise nat_eq (codes "<init>") name
is_method_named (m.Named wanted) name = pointwise nat_eq wanted name

-- The type on which a method is called: it is of the name, or under a class of the name.
abbrev pub receiver_is : TypePattern → JavaType → Asking Bool
receiver_is t.Any receiver = Return true
receiver_is (t.Named name) receiver = type_is name receiver

-- a parameter: the name is one of its erasure
abbrev pub parameter_is : TypePattern → JavaType → Bool
parameter_is t.Any parameter = true
parameter_is (t.Named name) parameter = has_name name parameter

-- each parameter as the pattern at its place says, and as many of both
abbrev pub each_parameter_is : List TypePattern → List JavaType → Bool
each_parameter_is [] [] = true
each_parameter_is [] (parameter ∷ parameters) = false
each_parameter_is (pattern ∷ patterns) [] = false
each_parameter_is (pattern ∷ patterns) (parameter ∷ parameters) = parameter_is pattern parameter && each_parameter_is patterns parameters

abbrev pub parameters_are : ParametersPattern → List JavaType → Bool
parameters_are p.Any parameters = true
parameters_are (p.Listed patterns) parameters = each_parameter_is patterns parameters

-- A method that is called on a type, with these parameters: first the type is looked at, and then the parameters, which ask nothing.
abbrev pub is_called_on : SigPattern → JavaType → List JavaType → Asking Bool
is_called_on pattern receiver parameters = bind (receiver_is pattern.receiver receiver) (λ is. Return (is && parameters_are pattern.parameters parameters))
