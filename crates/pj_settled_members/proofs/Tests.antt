-- Whether a type, or a class above it, has a name, and whether a method is as a pattern says, comes to something in a world that finds finitely many classes.
use Rattle.std.specs.Prelude.{ℕ, ◌&&◌, List}
use Rattle.pj_names.specs.ClassName.{Name}
use Rattle.pj_names.specs.JavaType.{JavaType, Primitive, Void, Null, Class, Array, Variable, Unknown}
use Rattle.pj_types.specs.Along.{first_along}
use Rattle.pj_types.specs.Subtyping.{is_hit}
use Rattle.pj_signature_patterns.specs.declared.pattern.SigPattern.{SigPattern}
use Rattle.pj_signature_patterns.specs.declared.pattern.TypePattern.{TypePattern}
use Rattle.pj_signature_patterns.specs.declared.pattern.TypePattern.TheVariants as t
use Rattle.pj_type_tests.specs.Methods.{is_called_on, parameters_are, receiver_is}
use Rattle.pj_type_tests.specs.Types.{class_is, is_called, type_is}
use Rattle.pj_settling.specs.Settling.{FindsFinitely, Settles, World}
use Rattle.pj_settling.proofs.Searches.{first_along_settles}
use Rattle.pj_settling.proofs.Settled.{given, made_by}

module _ {world : World} (finite : FindsFinitely world) where
  class_is_settles : (text : List ℕ) (name : Name) → Settles world (class_is text name)
  unfolding class_is
  class_is_settles text name = made_by {m = first_along (is_called text) name} is_hit (first_along_settles finite {test = is_called text} (λ ty. given _) name)

  pub type_is_settles : (text : List ℕ) (ty : JavaType) → Settles world (type_is text ty)
  type_is_settles text (Primitive prim) = given _
  type_is_settles text Void = given _
  type_is_settles text Null = given _
  type_is_settles text (Class name arguments) = class_is_settles text name
  type_is_settles text (Array component) = given _
  type_is_settles text (Variable name bound) = type_is_settles text bound
  type_is_settles text Unknown = given _

  receiver_is_settles : (pattern : TypePattern) (receiver : JavaType) → Settles world (receiver_is pattern receiver)
  receiver_is_settles t.Any receiver = given _
  receiver_is_settles (t.Named name) receiver = type_is_settles name receiver

  pub called_on_settles : (pattern : SigPattern) (receiver : JavaType) (parameters : List JavaType) → Settles world (is_called_on pattern receiver parameters)
  called_on_settles pattern receiver parameters = made_by {m = receiver_is pattern.receiver receiver} (λ is. is && parameters_are pattern.parameters parameters) (receiver_is_settles pattern.receiver receiver)
