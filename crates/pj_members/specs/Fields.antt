-- Fields of a class with those that it inherits, JLS 8.3 and 9.3.
use Rattle.std.specs.Prelude.{ℕ, List, Option, None}
use Rattle.pj_names.specs.ClassName.{Name}
use Rattle.pj_names.specs.JavaType.{JavaType, Primitive, Void, Null, Class, Array, Variable, Unknown, Arguments}
use Rattle.pj_names.specs.Asking.{Asking, Return, bind, look_up}
use Rattle.pj_types.specs.Along.{first_along}
use Rattle.pj_types.specs.Members.{FoundField}
use Rattle.pj_members.specs.InClass.{arguments_on, field_of_known}

-- the field of a class on the list of a class: it is asked, unless it is `java.lang.Object`
abbrev pub field_in_class : Name → List ℕ → Name → Arguments → Asking (Option FoundField)
field_in_class class name owner arguments = bind (look_up owner) (λ known. Return (field_of_known owner (arguments_on class owner arguments) name known))

-- the field of a type on the list, each of which is a class
abbrev pub field_in : Name → List ℕ → JavaType → Asking (Option FoundField)
field_in class name (Primitive prim) = Return None
field_in class name Void = Return None
field_in class name Null = Return None
field_in class name (Class owner arguments) = field_in_class class name owner arguments
field_in class name (Array member) = Return None
field_in class name (Variable variable bound) = Return None
field_in class name Unknown = Return None

-- A field is the first of its name along the list of supertypes: each class is asked before the next one is given.
abbrev pub find_field : Name → List ℕ → Asking (Option FoundField)
find_field class name = first_along (field_in class name) class
